-- Places: where a gene node sits in the species tree.                                  (01, "Places (source document 003, definition 1)")
--   below par a x    == the test of Below: is x at or below a?
--   leaves par g     == the leaves at or below g
--   Holds w g b      <-> b's subtree holds every taxon below g: each gene leaf at or below g has its taxon at a species leaf at or below b
--   IsPlace w g a    <-> a is M(g)                                  (01, "the lowest species node whose subtree holds every taxon below g")
--   holds w g b      == the test of Holds
--   place w g        == M(g), found by going up from the species leaf of one of the leaves below g to the first node that holds them all
-- For a gene leaf this is "the species leaf of its taxon", its home. None of it asks how nodes are numbered. Assumes nothing.
use Rattle.std.specs.Prelude.{ℕ, ◌≡◌, Bool, ◌&&◌, List, get_or, eqb}
use Rattle.trees.specs.Lists.{keep_if, has, all, any, first}
use Rattle.trees.specs.Trees.{none, line, Below, nodes, Leaf, is_leaf}
use Rattle.trees.specs.Tables.{taxon, Pair, home}

unfoldable pub below : List ℕ → ℕ → ℕ → Bool
below par a x = has a (line par x)

unfoldable pub leaves : List ℕ → ℕ → List ℕ
leaves par g = keep_if (λ x. is_leaf par x && below par g x) (nodes par)

-- 003: "γ(g) ⊆ σ(b)", γ(g) "the set of species in which occur the extant genes descendant from g" and σ(b) "the set of species in
-- the external nodes descendant from" b
abbrev pub Holds : Pair → ℕ → ℕ → Type 0
Holds w g b =
    (x : ℕ) → Leaf w.gp x → Below w.gp g x
    → (s : ℕ) × Leaf w.sp s × Below w.sp b s × (taxon w.st s ≡ taxon w.gt x)

-- "M(g), the lowest species node whose subtree holds every taxon below g"
pub record IsPlace (w : Pair) (g a : ℕ) : Type 0 where
  pub all_in : Holds w g a
  pub under : (b : ℕ) → Holds w g b → Below w.sp b a

unfoldable pub holds : Pair → ℕ → ℕ → Bool
holds w g b = all (λ x. any (λ s. eqb (taxon w.st s) (taxon w.gt x)) (leaves w.sp b)) (leaves w.gp g)

unfoldable pub place : Pair → ℕ → ℕ
place w g = first (holds w g) (line w.sp (home w (get_or (leaves w.gp g) 0 none))) none
