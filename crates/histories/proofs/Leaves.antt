-- The leaves below a node, the test of at-or-below, and the root: laws of one tree. Assumes nothing.
use Prim.Native.Nat.{ℕ, ◌<◌}
use mathlib.Core.Logic.{◌⊎◌, inl, inr}
use mathlib.Core.Bool.{◌&&◌}
use mathlib.Core.List.{List}
use lib.ListN.{length}
use lib.Dec.{T}
use Rattle.trees.specs.Lists.{has}
use Rattle.trees.specs.Trees.{Below, here, step, nodes, kid, Leaf, Inner, is_leaf}
use Rattle.trees.proofs.Bools.{and_both, and_left, and_right}
use Rattle.trees.proofs.Lists.{has_keep, keep_has}
use Rattle.trees.proofs.Lines.{Grounded, on_line, off_line, trans, low_node, from_kids}
use Rattle.trees.proofs.Kids.{has_node, kid_first}
use Rattle.trees.proofs.Sound.{leaf_is, is_leaf_lem}
use Rattle.histories.specs.Places.{below, leaves}

pub T-below : (par : List ℕ) {a x : ℕ} → T (below par a x) → Below par a x
unfolding below
T-below par t = off_line par t

pub leaves_has : (par : List ℕ) (g x : ℕ) → T (has x (leaves par g)) → Leaf par x × Below par g x
unfolding leaves
leaves_has par g x t =
    let k = keep_has (λ y. is_leaf par y && below par g y) x (nodes par) t in
    (leaf_is par x (and_left (is_leaf par x) (below par g x) k.0), T-below par (and_right (is_leaf par x) (below par g x) k.0))

module _ {par : List ℕ} (G : Grounded par) where
  pub below_T : {a x : ℕ} → Below par a x → T (below par a x)
  unfolding below
  below_T b = on_line G b

  pub has_leaves : (g x : ℕ) → Leaf par x → Below par g x → T (has x (leaves par g))
  unfolding leaves
  has_leaves g x e b =
      has_keep (λ y. is_leaf par y && below par g y) x (nodes par)
      (and_both (is_leaf par x) (below par g x) (is_leaf_lem par x e) (below_T b)) (has_node par (low_node b))

  -- below each node stands a leaf
  pub some_leaf : ((x : ℕ) → x < length par → Leaf par x ⊎ Inner par x) → (g : ℕ) → g < length par → (x : ℕ) × Leaf par x × Below par g x
  some_leaf two =
      from_kids G (λ g. (x : ℕ) × Leaf par x × Below par g x)
      (λ g h f. elim (two g h) [
        | inl e ↦ (g, e, here h)
        | inr i ↦
            let k = kid_first par g i in
            let r = f (kid par g 0) k.0 k.1 in
            (r.0, r.1, trans r.2 (step k.0 (rw k.1 (here h))))
      ])
