-- Which histories are legal.                                                           (01, "Rules of descent for an offered history")
--   Apart sp s x y    <-> x and y lie on different sides of species node s: "The sides of a species node are its two children in the
--                         whole release, each with all below it"
--   Legal w counted h <-> h is legal for the trees w, its places being among the species nodes in the set `counted`; in the base every
--                         species node is (Legal w every_node h)
-- A field is a sentence, in 01's order. None of it asks how nodes are numbered. Assumes nothing.
use Rattle.std.specs.Prelude.{ℕ, ◌<◌, ◌≡◌, ◌⊎◌, Bool, List, length, T}
use Rattle.trees.specs.Trees.{up, Below, kid, Leaf, Inner}
use Rattle.trees.specs.Tables.{Pair, home}
use Rattle.histories.specs.Histories.{History}

abbrev pub Apart : List ℕ → ℕ → ℕ → ℕ → Type 0
Apart sp s x y =
    (Below sp (kid sp s 0) x × Below sp (kid sp s 1) y) ⊎ (Below sp (kid sp s 1) x × Below sp (kid sp s 0) y)

pub record Legal (w : Pair) (counted : ℕ → Bool) (h : History) : Type 0 where
  -- "every place is a species node": one of the p, and counted
  pub at_node : (g : ℕ) → g < length w.gp → h.at g < length w.sp
  pub at_counted : (g : ℕ) → g < length w.gp → T (counted (h.at g))
  -- "leaves have label 0 and inner nodes 1 or 2"
  pub leaf_kind : (g : ℕ) → g < length w.gp → Leaf w.gp g → h.kind g ≡ 0
  pub inner_kind : (g : ℕ) → g < length w.gp → Inner w.gp g → (h.kind g ≡ 1) ⊎ (h.kind g ≡ 2)
  -- "each leaf sits at the species leaf of its taxon"
  pub leaf_at : (g : ℕ) → g < length w.gp → Leaf w.gp g → h.at g ≡ home w g
  -- "each child's place is at or below its parent's place"
  pub descent : (c : ℕ) → c < length w.gp → up w.gp c < length w.gp → Below w.sp (h.at (up w.gp c)) (h.at c)
  -- "for each node labelled speciation, one child's place is at or below one child of the node's own place, and the other's at or
  -- below the other"
  pub sides : (g : ℕ) → g < length w.gp → h.kind g ≡ 1 → Apart w.sp (h.at g) (h.at (kid w.gp g 0)) (h.at (kid w.gp g 1))
