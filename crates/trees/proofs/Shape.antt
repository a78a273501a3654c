-- How many inner nodes a tree has, and how deep it can be. Assumes nothing.
use Prim.Native.Nat.{ℕ, zero, suc, ◌+◌, ◌*◌, ◌≤◌, ◌<◌}
use native.Mathlib.Omega.{arith}
use native.Mathlib.Decide.{dec_lt, ℕ_discrete}
use mathlib.Core.Path.{◌≡◌, refl, sym, ◌∙◌}
use mathlib.Core.Logic.{◌⊎◌, inl, inr}
use mathlib.Core.Bool.{true, not}
use mathlib.Core.List.{List, [], ◌∷◌}
use lib.ListN.{length}
use lib.Dec.{T, eqb}
use borrow.Author.Tests.{eq-eqb, ne_eqb}
use Rattle.trees.specs.Lists.{has, total, one}
use Rattle.trees.specs.Trees.{up, line, nodes, kids, Leaf, Inner, is_leaf, depth}
use Rattle.trees.proofs.Bools.{test, true_T}
use Rattle.trees.proofs.Lists.{only, has_head, has_tail, total_cong, total_add, total_swap, total_at, total_none, total_le, total_ones}
use Rattle.trees.proofs.Lines.{line_in, line_out, off_line, top_node}
use Rattle.trees.proofs.Kids.{Rooted, node_has, kids_has, kids_two, leaf_alone, none_has, not_over, sum_kids}
use Rattle.trees.proofs.Sound.{leaf_is}

-- how many inner nodes there are
abbrev pub inners : List ℕ → ℕ
inners par = total (λ g. one (not (is_leaf par g))) (nodes par)

-- how often a node stands in a list
abbrev times : ℕ → List ℕ → ℕ
times a l = total (λ x. only (eqb x a) 1) l

times_none : (a : ℕ) (l : List ℕ) → (T (has a l) → ⊥) → times a l ≡ 0
unfolding total
times_none a [] f = refl
times_none a (x ∷ l) f =
    elim (ℕ_discrete x a) [
      | yes e ↦ absurd (f (rw e (has_head a l)))
      | no e ↦ rw (ne_eqb x a e) (omega (arith, times_none a l (λ t. f (has_tail a x l t))))
    ]

module _ {par : List ℕ} (R : Rooted par) where
  -- a node stands at most once on a line: above itself it does not stand again
  times_fuel : (k a x : ℕ) → (x < length par → R.ground.rank x < k) → times a (line par x) ≤ 1
  unfolding total
  times_fuel k a x f = elim (dec_lt x (length par)) [ yes h ↦ inside k a x h (f h) | no h ↦ rw (line_out par x (omega arith)) (omega arith) ]
    where
      inside : (k a x : ℕ) → x < length par → R.ground.rank x < k → times a (line par x) ≤ 1
      inside zero a x h q = absurd (omega arith)
      inside (suc k) a x h q =
          rw (line_in R.ground x h)
          (elim (ℕ_discrete x a) [
            | yes e ↦ rw (eq-eqb x a e) (omega (arith, times_none a (line par (up par x)) (λ t. not_over R.ground {c = x} (rw (← e) at (off_line par t)))))
            | no e ↦ rw (ne_eqb x a e) (elim (dec_lt (up par x) (length par)) [
              | yes u ↦ omega (arith, inside k a (up par x) u (omega (arith, R.ground.falls x h u)))
              | no u ↦ rw (line_out par (up par x) (omega arith)) (omega arith)
            ])
          ])

  -- and if it stands on the line of a parent, it is inner
  over_once : (s a : ℕ) → s < length par → times a (line par (up par s)) ≤ one (not (is_leaf par a))
  unfolding one
  over_once s a l =
      elim (test (is_leaf par a)) [
        | inl e ↦ rw e (omega (
          arith,
          times_none a (line par (up par s))
              (λ t. let b = off_line par t in let z = leaf_is par a (true_T e) in
              none_has (kids par a) s z (kids_has par l (leaf_alone z b))),
        ))
        | inr e ↦ rw e (times_fuel (length par) a (up par s) (R.ground.small (up par s)))
      ]

module _ {par : List ℕ} (R : Rooted par) (two : (x : ℕ) → x < length par → Leaf par x ⊎ Inner par x) where
  kids_one : (g : ℕ) → g < length par → total (λ x. 1) (kids par g) ≡ one (not (is_leaf par g)) + one (not (is_leaf par g))
  unfolding total one is_leaf
  kids_one g l = elim (two g l) [ inl e ↦ total_none (λ x. 1) (kids par g) e ∙ rw e | inr i ↦ rw (i, kids_two par g i) ]

  -- a tree of n nodes has (n - 1) / 2 inner nodes: each but the root is a child, and each inner node has two
  pub inner_count : 2 * inners par + 1 ≡ length par
  unfolding nodes
  inner_count =
      let b : ℕ → ℕ = λ g. one (not (is_leaf par g)) in
      let s : total (λ g. total (λ x. 1) (kids par g)) (nodes par) ≡ total (λ g. b g + b g) (nodes par) =
      total_cong (λ g. total (λ x. 1) (kids par g)) (λ g. b g + b g) (nodes par) (λ g t. kids_one g (node_has par t)) in
      omega (arith, s, total_add b b (nodes par), sum_kids R (λ x. 1), total_ones 0 (length par))

  -- no node is deeper than there are inner nodes: its proper ancestors are inner, and each stands on its line once
  pub depth_few : (s : ℕ) → s < length par → depth par (λ x. true) s ≤ inners par
  unfolding depth nodes one
  depth_few s l =
      let L = line par (up par s) in
      let each-once : total (λ x. 1) L ≡ total (λ x. total (λ y. only (eqb x y) 1) (nodes par)) L =
      total_cong (λ x. 1) (λ x. total (λ y. only (eqb x y) 1) (nodes par)) L
      (λ x t. sym (total_at (λ y. 1) x 0 (length par) (omega arith) (omega (arith, top_node (off_line par t))))) in
      let b : ℕ → ℕ = λ g. one (not (is_leaf par g)) in
      omega (arith, each-once, total_swap (λ x y. only (eqb x y) 1) L (nodes par), total_le (λ y. times y L) b (nodes par) (λ y t. over_once R s y l))
