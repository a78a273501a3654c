-- The species nodes that are left when the species without a gene in this family are taken out.                            (02, W3)
--   Sampled w s       <-> a gene of this family has its home at or below s
--   sampled w s       == the test of Sampled
--   kept w s          == is s kept?                     (02, "species leaves with a gene in this family, and inner nodes with such leaves
--                        below both children")
--   NearestKept w k c <-> c is the nearest kept node at or below k: where k is a child of a kept node s, c is the child of s over the kept
--                         nodes on that side             (02, "a node's children are the nearest kept nodes below")
--   IsKeptPlace w g a <-> a is M(g) over the kept nodes: the lowest kept node whose subtree holds every taxon below g
-- Over the kept nodes the depth of s is `depth w.sp (kept w) s` (02, "Depth counts kept proper ancestors"), and a history h is legal
-- if `Legal w (kept w) h`. None of it asks how nodes are numbered. Assumes nothing.
use Rattle.std.specs.Prelude.{ℕ, ◌<◌, Bool, ◌&&◌, length, T}
use Rattle.trees.specs.Lists.{any, pick}
use Rattle.trees.specs.Trees.{Below, nodes, kid, Leaf, is_leaf}
use Rattle.trees.specs.Tables.{Pair, home}
use Rattle.histories.specs.Places.{below, Holds}

abbrev pub Sampled : Pair → ℕ → Type 0
Sampled w s = (x : ℕ) × (x < length w.gp) × Leaf w.gp x × Below w.sp s (home w x)

unfoldable pub sampled : Pair → ℕ → Bool
sampled w s = any (λ x. is_leaf w.gp x && below w.sp s (home w x)) (nodes w.gp)

-- "species leaves with a gene in this family, and inner nodes with such leaves below both children"
unfoldable pub kept : Pair → ℕ → Bool
kept w s = pick (is_leaf w.sp s) (sampled w s) (sampled w (kid w.sp s 0) && sampled w (kid w.sp s 1))

-- "a node's children are the nearest kept nodes below"
pub record NearestKept (w : Pair) (k c : ℕ) : Type 0 where
  pub stays : T (kept w c)
  pub under : Below w.sp k c
  pub nearest : (x : ℕ) → T (kept w x) → Below w.sp k x → Below w.sp c x

-- 01's "the lowest species node whose subtree holds every taxon below g", among the kept nodes
pub record IsKeptPlace (w : Pair) (g a : ℕ) : Type 0 where
  pub stays : T (kept w a)
  pub all_in : Holds w g a
  pub under : (b : ℕ) → T (kept w b) → Holds w g b → Below w.sp b a
