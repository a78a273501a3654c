-- The least history is legal, and legality is read off the gene nodes alone. Assumes nothing.
use Prim.Native.Nat.{ℕ, ◌<◌}
use native.Mathlib.Omega.{arith}
use mathlib.Core.Path.{◌≡◌, sym, ◌∙◌}
use mathlib.Core.Logic.{◌⊎◌, inl, inr, ◌≢◌}
use mathlib.Core.Bool.{Bool}
use lib.ListN.{length}
use lib.Dec.{T}
use Rattle.trees.specs.Trees.{up, Below, kid, Inner}
use Rattle.trees.specs.Tables.{Pair}
use Rattle.trees.specs.Sound.{Sound}
use Rattle.trees.proofs.Kids.{kid_first, kid_second, via_two, not_over, leaf_alone}
use Rattle.trees.proofs.Sound.{trees}
use Rattle.histories.specs.Places.{place}
use Rattle.histories.specs.Histories.{History, Agree, least, every_node}
use Rattle.histories.specs.Legal.{Legal, Apart}
use Rattle.histories.proofs.Places.{place_node, place_leaf, place_down, place_first, place_second, place_meets}
use Rattle.histories.proofs.Labels.{label_leaf, label_cases}

module _ {w : Pair} (S : Sound w) where
  -- no child of the place has both children's places below it: they meet at the place itself
  not_one_side : (g c : ℕ) → g < length w.gp → Inner w.gp g → up w.sp c ≡ place w g
      → Below w.sp c (place w (kid w.gp g 0)) → Below w.sp c (place w (kid w.gp g 1)) → ⊥
  not_one_side g c l i u p q = not_over (trees S).s.ground {c = c} (rw u ((place_meets S g l i).over c p q))

  -- below the place and not at it: at or below one of its two children
  side : (g x : ℕ) → g < length w.gp → x ≢ place w g → Below w.sp (place w g) x
      → Inner w.sp (place w g) × (Below w.sp (kid w.sp (place w g) 0) x ⊎ Below w.sp (kid w.sp (place w g) 1) x)
  side g x l n b =
      elim ((trees S).s_two (place w g) (place_node S g l)) [
        | inl e ↦ absurd (n (leaf_alone e b))
        | inr i ↦ (i, elim (via_two i b) [ inl e ↦ absurd (n e) | inr r ↦ r ])
      ]

  -- two places that meet at a node and are not at it lie on different sides of it
  least_sides : (g : ℕ) → g < length w.gp → Inner w.gp g → place w (kid w.gp g 0) ≢ place w g → place w (kid w.gp g 1) ≢ place w g
      → Apart w.sp (place w g) (place w (kid w.gp g 0)) (place w (kid w.gp g 1))
  least_sides g l i p q =
      let s0 = side g (place w (kid w.gp g 0)) l p (place_first S g l i) in
      let s1 = side g (place w (kid w.gp g 1)) l q (place_second S g l i) in
      let u0 = (kid_first w.sp (place w g) s0.0).1 in
      let u1 = (kid_second w.sp (place w g) s0.0).1 in
      elim s0.1 [
        | inl a ↦ elim s1.1 [ inl b ↦ absurd (not_one_side g (kid w.sp (place w g) 0) l i u0 a b) | inr b ↦ inl (a, b) ]
        | inr a ↦ elim s1.1 [ inl b ↦ inr (a, b) | inr b ↦ absurd (not_one_side g (kid w.sp (place w g) 1) l i u1 a b) ]
      ]

  -- over any counted set that holds the least places
  pub least_legal_over : (counted : ℕ → Bool) → ((g : ℕ) → g < length w.gp → T (counted (place w g))) → Legal w counted (least w)
  least_legal_over counted K =
      record {
        at_node = λ g l. place_node S g l;
        at_counted = K;
        leaf_kind = λ g l e. label_leaf w g e;
        inner_kind = λ g l i. elim (label_cases w g i) [ inl k ↦ inl k.0 | inr k ↦ inr k.0 ];
        leaf_at = λ g l e. place_leaf S g l e;
        descent = λ c l u. place_down S c l u;
        sides = λ g l e. elim ((trees S).g_two g l) [
          | inl z ↦ absurd (omega (arith, label_leaf w g z))
          | inr i ↦ elim (label_cases w g i) [ inl k ↦ least_sides g l i k.1 k.2 | inr k ↦ absurd (omega (arith, k.0)) ]
        ];
      }

  pub least_legal : Legal w every_node (least w)
  least_legal = least_legal_over every_node (λ g l. tt)

-- a labelled node of a legal history that is no leaf by label is inner
pub kind_inner : {w : Pair} {counted : ℕ → Bool} {h : History} → Sound w → Legal w counted h → (g : ℕ) → g < length w.gp → h.kind g ≢ 0 → Inner w.gp g
kind_inner S L g l n = elim ((trees S).g_two g l) [ inl e ↦ absurd (n (L.leaf_kind g l e)) | inr i ↦ i ]

-- a history that agrees with a legal one at every gene node is legal
pub legal_agree : {w : Pair} {counted : ℕ → Bool} {h k : History} → Sound w → Agree w h k → Legal w counted k → Legal w counted h
legal_agree {w} {counted} {h} {k} S A L =
    record {
      at_node = λ g l. rw (A g l).0 (L.at_node g l);
      at_counted = λ g l. rw (A g l).0 (L.at_counted g l);
      leaf_kind = λ g l e. (A g l).1 ∙ L.leaf_kind g l e;
      inner_kind = λ g l i. rw (A g l).1 (L.inner_kind g l i);
      leaf_at = λ g l e. (A g l).0 ∙ L.leaf_at g l e;
      descent = λ c l u. rw ((A c l).0, (A (up w.gp c) u).0) (L.descent c l u);
      sides = λ g l e.
          let z : k.kind g ≡ 1 = sym (A g l).1 ∙ e in
          let i = kind_inner S L g l (λ y. omega (arith, z, y)) in
          rw ((A g l).0, (A (kid w.gp g 0) (kid_first w.gp g i).0).0, (A (kid w.gp g 1) (kid_second w.gp g i).0).0) (L.sides g l z);
    }
