-- The kept species nodes: what the tests say, and that least places, and with them labels, are the same over the kept nodes.
-- Assumes nothing.
use Prim.Native.Nat.{ℕ, ◌+◌, ◌≤◌, ◌<◌}
use native.Mathlib.Omega.{arith}
use mathlib.Core.Path.{◌≡◌}
use mathlib.Core.Logic.{◌⊎◌, inl, inr, ◌↔◌}
use mathlib.Core.Bool.{Bool, ◌&&◌}
use mathlib.Core.List.{List}
use lib.ListN.{length}
use lib.Dec.{T}
use Rattle.trees.specs.Lists.{pick, total, one}
use Rattle.trees.specs.Trees.{up, Below, here, step, nodes, kid, Leaf, Inner, is_leaf, depth}
use Rattle.trees.specs.Tables.{Pair, home}
use Rattle.trees.specs.Sound.{Sound}
use Rattle.trees.proofs.Bools.{and_both, and_left, and_right, test, T_true, true_T}
use Rattle.trees.proofs.Lists.{any_has, has_any}
use Rattle.trees.proofs.Lines.{trans, antisym, low_node, line_out, depth_up}
use Rattle.trees.proofs.Kids.{has_node, node_has, kid_first, kid_second, via_two, leaf_alone, not_over}
use Rattle.trees.proofs.Sound.{trees, leaf_is, is_leaf_lem, not_leaf, home_is}
use Rattle.histories.specs.Places.{below, IsPlace, place}
use Rattle.histories.specs.Histories.{label}
use Rattle.histories.specs.Kept.{Sampled, sampled, kept, IsKeptPlace}
use Rattle.histories.proofs.Leaves.{T-below, below_T, some_leaf}
use Rattle.histories.proofs.Places.{place_is, place_one, place_over, place_under, place_node}
use Rattle.histories.proofs.Labels.{label_shared}

-- at g, or at or below its second child or its first
pub via_other : {par : List ℕ} {g x : ℕ} → Inner par g → Below par g x → (x ≡ g) ⊎ (Below par (kid par g 1) x ⊎ Below par (kid par g 0) x)
via_other i b = elim (via_two i b) [ inl e ↦ inl e | inr r ↦ inr (elim r [ inl p ↦ inr p | inr p ↦ inl p ]) ]

-- ---- what the tests say

module _ (w : Pair) (s : ℕ) where
  -- a species leaf is kept exactly if it is sampled
  pub kept_leaf : Leaf w.sp s → T (kept w s) ↔ T (sampled w s)
  unfolding kept pick
  kept_leaf e = rw (T_true {b = is_leaf w.sp s} (is_leaf_lem w.sp s e)) ((λ t. t), (λ t. t))

  -- an inner species node is kept exactly if both children are sampled
  pub seen_twice : Inner w.sp s → T (kept w s) ↔ (T (sampled w (kid w.sp s 0)) × T (sampled w (kid w.sp s 1)))
  unfolding kept pick
  seen_twice i =
      let a = sampled w (kid w.sp s 0) in
      let b = sampled w (kid w.sp s 1) in
      rw (not_leaf w.sp s i) ((λ t. (and_left a b t, and_right a b t)), (λ p. and_both a b p.0 p.1))

module _ {w : Pair} (S : Sound w) where
  -- the test says what it means
  pub sampled_test : (s : ℕ) → T (sampled w s) ↔ Sampled w s
  unfolding sampled
  sampled_test s =
      let p : ℕ → Bool = λ x. is_leaf w.gp x && below w.sp s (home w x) in (
        (λ t.
            let k = has_any p (nodes w.gp) t in
            let x : ℕ = k.0 in
            let a = is_leaf w.gp x in
            let b = below w.sp s (home w x) in
            (x, node_has w.gp k.1, leaf_is w.gp x (and_left a b k.2), T-below w.sp (and_right a b k.2))),
        (λ k. any_has p k.0 (nodes w.gp) (has_node w.gp k.1)
            (and_both (is_leaf w.gp k.0) (below w.sp s (home w k.0)) (is_leaf_lem w.gp k.0 k.2) (below_T (trees S).s.ground k.3))),
      )

  -- above a sampled node every node is
  pub sampled_up : (a s : ℕ) → Below w.sp a s → T (sampled w s) → T (sampled w a)
  sampled_up a s b t = let k = (sampled_test s).0 t in (sampled_test a).1 (k.0, k.1, k.2, trans k.3 b)

  -- a species leaf is sampled exactly if it is the home of a gene leaf
  pub seen_leaf : (s : ℕ) → s < length w.sp → Leaf w.sp s
      → T (sampled w s) ↔ ((x : ℕ) × (x < length w.gp) × Leaf w.gp x × (home w x ≡ s))
  seen_leaf s l e = (
    (λ t. let k = (sampled_test s).0 t in (k.0, k.1, k.2, leaf_alone e k.3)),
    (λ k. (sampled_test s).1 (k.0, k.1, k.2, rw k.3 (here l))),
  )

  -- an inner species node is sampled exactly if one of its children is: no gene has its home at an inner node
  pub seen_inner : (s : ℕ) → s < length w.sp → Inner w.sp s → T (sampled w s) ↔ (T (sampled w (kid w.sp s 0)) ⊎ T (sampled w (kid w.sp s 1)))
  seen_inner s l i =
      let k0 = kid_first w.sp s i in
      let k1 = kid_second w.sp s i in (
        (λ t.
            let k = (sampled_test s).0 t in
            elim (via_two i k.3) [
              | inl e ↦ absurd (omega (arith, rw e at (home_is S k.0 k.1 k.2).1, i))
              | inr r ↦ elim r [
                | inl b ↦ inl ((sampled_test (kid w.sp s 0)).1 (k.0, k.1, k.2, b))
                | inr b ↦ inr ((sampled_test (kid w.sp s 1)).1 (k.0, k.1, k.2, b))
              ]
            ]),
        (λ q. elim q [
          | inl t ↦ sampled_up s (kid w.sp s 0) (step k0.0 (rw k0.1 (here l))) t
          | inr t ↦ sampled_up s (kid w.sp s 1) (step k1.0 (rw k1.1 (here l))) t
        ]),
      )

  -- Kept is: a species leaf that is the home of a gene leaf, or an inner node with homes of gene leaves at or below each child.
  pub kept_is : (s : ℕ) → s < length w.sp
      → T (kept w s)
      ↔ ((Leaf w.sp s × ((x : ℕ) × (x < length w.gp) × Leaf w.gp x × (home w x ≡ s)))
      ⊎ (Inner w.sp s × Sampled w (kid w.sp s 0) × Sampled w (kid w.sp s 1)))
  kept_is s l =
      let t0 = sampled_test (kid w.sp s 0) in
      let t1 = sampled_test (kid w.sp s 1) in (
        (λ t. elim ((trees S).s_two s l) [
          | inl e ↦ inl (e, (seen_leaf s l e).0 ((kept_leaf w s e).0 t))
          | inr i ↦ let p = (seen_twice w s i).0 t in inr (i, t0.0 p.0, t1.0 p.1)
        ]),
        (λ q. elim q [
          | inl p ↦ (kept_leaf w s p.0).1 ((seen_leaf s l p.0).1 p.1)
          | inr p ↦ (seen_twice w s p.0).1 (t0.1 p.1, t1.1 p.2)
        ]),
      )

  pub kept_sampled : (s : ℕ) → s < length w.sp → T (kept w s) → T (sampled w s)
  kept_sampled s l t =
      elim ((trees S).s_two s l) [
        | inl e ↦ (kept_leaf w s e).0 t
        | inr i ↦ (seen_inner s l i).1 (inl ((seen_twice w s i).0 t).0)
      ]

  -- ---- least places are kept

  -- of an inner place each child is sampled: were k not, its sibling would hold all that the place holds
  side_sampled : (g k k' : ℕ) → g < length w.gp → Inner w.sp (place w g) → up w.sp k' ≡ place w g
      → ((x : ℕ) → Below w.sp (place w g) x → (x ≡ place w g) ⊎ (Below w.sp k x ⊎ Below w.sp k' x)) → T (sampled w k)
  side_sampled g k k' l i u f =
      elim (test (sampled w k)) [
        | inl t ↦ true_T t
        | inr t ↦ absurd (not_over (trees S).s.ground {c = k'} (rw u
            (place_under S g k' l (λ x e b. elim (f (home w x) (place_over S g x e b)) [
              | inl z ↦ absurd (omega (arith, rw z at (home_is S x (low_node b) e).1, i))
              | inr r ↦ elim r [ inl v ↦ absurd (rw t at ((sampled_test k).1 (x, low_node b, e, v))) | inr v ↦ v ]
            ]))))
      ]

  pub place_kept : (g : ℕ) → g < length w.gp → T (kept w (place w g))
  place_kept g l =
      let s : ℕ = place w g in
      elim ((trees S).s_two s (place_node S g l)) [
        | inl e ↦
            let x = some_leaf (trees S).g.ground (trees S).g_two g l in
            (kept_leaf w s e).1 ((sampled_test s).1 (x.0, low_node x.2, x.1, place_over S g x.0 x.1 x.2))
        | inr i ↦ (seen_twice w s i).1 (
          side_sampled g (kid w.sp s 0) (kid w.sp s 1) l i (kid_second w.sp s i).1 (λ x b. via_two i b),
          side_sampled g (kid w.sp s 1) (kid w.sp s 0) l i (kid_first w.sp s i).1 (λ x b. via_other i b),
        )
      ]

  -- "least places .. don't change": M(g) is the lowest kept node that holds every taxon below g,
  pub place_lowest_kept : (g : ℕ) → g < length w.gp → IsKeptPlace w g (place w g)
  place_lowest_kept g l = let M = place_is S g l in record { stays = place_kept g l; all_in = M.all_in; under = λ b t f. M.under b f }

  -- the only one,
  pub place_one_kept : (g a : ℕ) → g < length w.gp → IsKeptPlace w g a → a ≡ place w g
  place_one_kept g a l P =
      let M = place_lowest_kept g l in
      antisym (trees S).s.ground (P.under (place w g) M.stays M.all_in) (M.under a P.stays P.all_in)

  -- so a node is M(g) over the kept nodes exactly if it is M(g)
  pub place_same : (g a : ℕ) → g < length w.gp → IsKeptPlace w g a ↔ IsPlace w g a
  place_same g a l = (
    (λ P. rw (place_one_kept g a l P) (place_is S g l)),
    (λ P. rw (place_one S g a l P) (place_lowest_kept g l)),
  )

  -- "and labels": g is a duplication exactly if its place over the kept nodes is that of a child or of both
  pub label_kept : (g m m0 m1 : ℕ) → g < length w.gp → Inner w.gp g
      → IsKeptPlace w g m → IsKeptPlace w (kid w.gp g 0) m0 → IsKeptPlace w (kid w.gp g 1) m1 → (label w g ≡ 2) ↔ ((m0 ≡ m) ⊎ (m1 ≡ m))
  label_kept g m m0 m1 l i P P0 P1 =
      rw (
        place_one_kept g m l P,
        place_one_kept (kid w.gp g 0) m0 (kid_first w.gp g i).0 P0,
        place_one_kept (kid w.gp g 1) m1 (kid_second w.gp g i).0 P1,
      ) (label_shared w g i)

  -- ---- depth

  -- one step up, one less deep if the parent is kept
  pub kept_depth_up : (s : ℕ) → up w.sp s < length w.sp
      → depth w.sp (kept w) s ≡ one (kept w (up w.sp s)) + depth w.sp (kept w) (up w.sp s)
  kept_depth_up s u = depth_up (trees S).s.ground (kept w) s u

  -- what has no parent has depth 0
  pub kept_depth_top : (s : ℕ) → length w.sp ≤ up w.sp s → depth w.sp (kept w) s ≡ 0
  unfolding depth total
  kept_depth_top s u = rw (line_out w.sp (up w.sp s) u)
