-- The children of a node over the kept species nodes: one on each side, and the sides that they make are the two sides of 01.
-- Assumes nothing.
use Prim.Native.Nat.{ℕ, ◌<◌}
use mathlib.Core.Path.{◌≡◌}
use mathlib.Core.Logic.{◌⊎◌, inl, inr, ◌↔◌}
use lib.ListN.{length}
use lib.Dec.{T}
use Rattle.trees.specs.One.{Single}
use Rattle.trees.specs.Trees.{up, Below, here, step, kids, kid}
use Rattle.trees.specs.Tables.{Pair}
use Rattle.trees.specs.Sound.{Sound}
use Rattle.trees.proofs.Bools.{test, true_T}
use Rattle.trees.proofs.Lines.{trans, antisym, low_node, from_kids}
use Rattle.trees.proofs.Kids.{kids_has, none_has, kid_first, kid_second, either_kid, via_two}
use Rattle.trees.proofs.Sound.{trees}
use Rattle.histories.specs.Kept.{sampled, kept, NearestKept}
use Rattle.histories.specs.Legal.{Apart}
use Rattle.histories.proofs.Kept.{via_other, kept_leaf, seen_twice, seen_inner, sampled_up, kept_sampled}

module _ {w : Pair} (S : Sound w) where
  -- below a node that is not sampled nothing is kept
  none_kept : (k x : ℕ) → (T (sampled w k) → ⊥) → Below w.sp k x → T (kept w x) → ⊥
  none_kept k x n b t = n (sampled_up S k x b (kept_sampled S x (low_node b) t))

  -- a kept node is the nearest to itself
  itself : (s : ℕ) → s < length w.sp → T (kept w s) → NearestKept w s s
  itself s l t = record { stays = t; under = here l; nearest = λ x v b. b }

  -- from one side alone: what is nearest on the sampled side k of s is nearest below s, as s itself is not kept
  nearest_side : (s k k' c : ℕ) → s < length w.sp → k < length w.sp → up w.sp k ≡ s → (T (kept w s) → ⊥) → (T (sampled w k') → ⊥)
      → ((x : ℕ) → Below w.sp s x → (x ≡ s) ⊎ (Below w.sp k x ⊎ Below w.sp k' x)) → NearestKept w k c → NearestKept w s c
  nearest_side s k k' c l m u n n' f N =
      record {
        stays = N.stays;
        under = trans N.under (step m (rw u (here l)));
        nearest = λ x t b. elim (f x b) [
          | inl e ↦ absurd (n (rw e at t))
          | inr r ↦ elim r [ inl v ↦ N.nearest x t v | inr v ↦ absurd (none_kept k' x n' v t) ]
        ];
      }

  -- At or below a sampled node there is a nearest kept one: the node itself if it is a leaf or both children are sampled, else the nearest
  -- on the one side that is.
  pub nearest_kept : (k : ℕ) → k < length w.sp → T (sampled w k) → (c : ℕ) × NearestKept w k c
  nearest_kept =
      from_kids (trees S).s.ground (λ k. T (sampled w k) → (c : ℕ) × NearestKept w k c)
      (λ s l f t. elim ((trees S).s_two s l) [
        | inl e ↦ (s, itself s l ((kept_leaf w s e).1 t))
        | inr i ↦
            let k0 : ℕ = kid w.sp s 0 in
            let k1 : ℕ = kid w.sp s 1 in
            let p0 = kid_first w.sp s i in
            let p1 = kid_second w.sp s i in
            elim (test (sampled w k0)) [
              | inl a ↦ elim (test (sampled w k1)) [
                | inl b ↦ (s, itself s l ((seen_twice w s i).1 (true_T a, true_T b)))
                | inr b ↦
                    let r = f k0 p0.0 p0.1 (true_T a) in (
                      r.0,
                      nearest_side s k0 k1 r.0 l p0.0 p0.1 (λ v. rw b at ((seen_twice w s i).0 v).1) (λ v. rw b at v) (λ x u. via_two i u) r.1,
                    )
              ]
              | inr a ↦
                  let b : T (sampled w k1) = elim ((seen_inner S s l i).0 t) [ inl v ↦ absurd (rw a at v) | inr v ↦ v ] in
                  let r = f k1 p1.0 p1.1 b in (
                    r.0,
                    nearest_side s k1 k0 r.0 l p1.0 p1.1 (λ v. rw a at ((seen_twice w s i).0 v).0) (λ v. rw a at v)
                        (λ x u. via_other i u) r.1,
                  )
            ]
      ])

  -- a kept node with a child is inner, and the child is sampled
  kid_sampled : (s k : ℕ) → s < length w.sp → T (kept w s) → k < length w.sp → up w.sp k ≡ s → T (sampled w k)
  kid_sampled s k l t m u =
      elim ((trees S).s_two s l) [
        | inl e ↦ absurd (none_has (kids w.sp s) k e (kids_has w.sp m u))
        | inr i ↦ let p = (seen_twice w s i).0 t in elim (either_kid w.sp s k i m u) [ inl e ↦ rw e p.0 | inr e ↦ rw e p.1 ]
      ]

  -- two nearest kept nodes are one
  pub nearest_one : (k : ℕ) → Single (NearestKept w k)
  nearest_one k c d C D = antisym (trees S).s.ground (D.nearest c C.stays C.under) (C.nearest d D.stays D.under)

  -- Over the kept nodes a kept inner node s has exactly one child on the side of each of its children k.
  pub kept_kid : (s k : ℕ) → s < length w.sp → T (kept w s) → k < length w.sp → up w.sp k ≡ s → ((c : ℕ) × NearestKept w k c) × Single (NearestKept w k)
  kept_kid s k l t m u = (nearest_kept k m (kid_sampled s k l t m u), nearest_one k)

-- For kept x and y the two sides of an inner node s, which 01 names by its children in the whole release, are those of its two children
-- c0 and c1 over the kept nodes: x and y lie apart exactly if one is at or below c0 and the other at or below c1.
pub kept_sides : {w : Pair} (s x y c0 c1 : ℕ) → T (kept w x) → T (kept w y)
    → NearestKept w (kid w.sp s 0) c0 → NearestKept w (kid w.sp s 1) c1
    → Apart w.sp s x y ↔ ((Below w.sp c0 x × Below w.sp c1 y) ⊎ (Below w.sp c1 x × Below w.sp c0 y))
kept_sides s x y c0 c1 t v C0 C1 = (
  (λ a. elim a [
    | inl p ↦ inl (C0.nearest x t p.0, C1.nearest y v p.1)
    | inr p ↦ inr (C1.nearest x t p.0, C0.nearest y v p.1)
  ]),
  (λ a. elim a [
    | inl p ↦ inl (trans p.0 C0.under, trans p.1 C1.under)
    | inr p ↦ inr (trans p.0 C1.under, trans p.1 C0.under)
  ]),
)
