-- The tests of rules 10 and 11 by sides say what the rules say. Assumes nothing.
use Prim.Native.Nat.{ℕ, ◌≤◌, ◌<◌}
use native.Mathlib.Omega.{arith}
use native.Mathlib.Decide.{ℕ_discrete, dec_lt}
use mathlib.Core.Path.{◌≡◌, sym, ap₂, ◌∙◌}
use mathlib.Core.Logic.{◌⊎◌, inl, inr, ◌≢◌, ◌↔◌}
use mathlib.Core.Bool.{◌&&◌, not}
use mathlib.Core.List.{List}
use lib.ListN.{length, get_or}
use lib.Dec.{T, eqb, eqb→eq, eqb_refl, T_not, not_T}
use borrow.Author.Tests.{eq-eqb, ne_eqb, lt-ltb, le-ltb}
use Rattle.trees.specs.Lists.{pick}
use Rattle.trees.specs.Trees.{none, up, Below, here, step, kid, Inner}
use Rattle.trees.specs.Sound.{SoundTree}
use Rattle.trees.proofs.Bools.{or_left, or_right, or_cases, and_both, and_left, and_right, T-same}
use Rattle.trees.proofs.Lines.{up_at, trans, top_node}
use Rattle.trees.proofs.Kids.{kids_has, none_has, kid_first, kid_second, kid_order, either_kid, via_kid, no_kid}
use Rattle.histories.specs.Legal.{Apart}
use Rattle.sides.specs.Tests.{side_of, nested_by, either_side, parted_by}
use Rattle.sides.specs.Visits.{unseen, merged, Seen, parted_in}
use Rattle.sides.proofs.Climbing.{side_is, side_cases, seen_end, merged_two}

-- both have a side, and not the same
abbrev OnEither : ℕ → ℕ → Type 0
OnEither s t = ((s ≡ none) ⊎ ((t ≡ none) ⊎ (s ≡ t))) → ⊥

either_is : (s t : ℕ) → T (either_side s t) ↔ OnEither s t
unfolding either_side
either_is s t =
    let a = not (eqb s none) in
    let b = not (eqb t none) in
    let c = not (eqb s t) in (
      (λ p k. elim k [
        | inl e ↦ T_not (eqb s none) (and_left a (b && c) p) (rw e tt)
        | inr r ↦ let q = and_right a (b && c) p in elim r [ inl e ↦ T_not (eqb t none) (and_left b c q) (rw e tt) | inr e ↦ T_not (eqb s t) (and_right b c q) (rw e (eqb_refl t)) ]
      ]),
      (λ f. and_both a (b && c) (not_T (eqb s none) (λ e. f (inl (eqb→eq s none e))))
          (and_both b c (not_T (eqb t none) (λ e. f (inr (inl (eqb→eq t none e))))) (not_T (eqb s t) (λ e. f (inr (inr (eqb→eq s t e))))))),
    )

module _ {sp st : List ℕ} (Q : SoundTree sp st) where
  -- two nodes lie apart below a exactly if both have a side, and not the same
  sides_apart : (a x y : ℕ) → a < length sp → Apart sp a x y ↔ OnEither (side_of sp a x) (side_of sp a y)
  sides_apart a x y l =
      let few : length sp ≤ 2047 = Q.few in (
        (λ p k.
            let inner : (i z : ℕ) → Below sp (kid sp a i) z → Inner sp a =
            (λ i z B. elim (Q.two a l) [ inl e ↦ absurd (omega (arith, rw (no_kid sp a i e) at (top_node B))) | inr j ↦ j ]) in
            let two : (s t : ℕ) → up sp s ≡ a → up sp t ≡ a → s ≢ t → Below sp s x → Below sp t y → ⊥ =
            (λ s t us ut n B C.
            let sx = side_is Q a x s us (top_node B) B in
            let sy = side_is Q a y t ut (top_node C) C in
            elim k [
              | inl e ↦ omega (arith, top_node B, sx, e)
              | inr r ↦ elim r [ inl e ↦ omega (arith, top_node C, sy, e) | inr e ↦ n (sym sx ∙ e ∙ sy) ]
            ]) in
            elim p [
              | inl b ↦ let j = inner 0 x b.0 in two (kid sp a 0) (kid sp a 1) (kid_first sp a j).1 (kid_second sp a j).1 (omega (arith, kid_order sp a j)) b.0 b.1
              | inr b ↦ let j = inner 1 x b.0 in two (kid sp a 1) (kid sp a 0) (kid_second sp a j).1 (kid_first sp a j).1 (omega (arith, kid_order sp a j)) b.0 b.1
            ]),
        (λ f. elim (side_cases Q a x) [
          | inr k ↦ absurd (f (inl k.0))
          | inl k ↦ elim (side_cases Q a y) [
            | inr m ↦ absurd (f (inr (inl m.0)))
            | inl m ↦
                let j : Inner sp a = elim (Q.two a l) [ inl e ↦ absurd (none_has _ (side_of sp a x) e (kids_has sp k.0 k.1)) | inr i ↦ i ] in
                elim (either_kid sp a (side_of sp a x) j k.0 k.1) [
                  | inl e ↦ elim (either_kid sp a (side_of sp a y) j m.0 m.1) [
                    | inl d ↦ absurd (f (inr (inr (e ∙ sym d))))
                    | inr d ↦ inl (rw e at k.2, rw d at m.2)
                  ]
                  | inr e ↦ elim (either_kid sp a (side_of sp a y) j m.0 m.1) [
                    | inl d ↦ inr (rw e at k.2, rw d at m.2)
                    | inr d ↦ absurd (f (inr (inr (e ∙ sym d))))
                  ]
                ]
          ]
        ]),
      )

  side_node : (a x : ℕ) → side_of sp a x ≢ unseen
  side_node a x e = elim (side_cases Q a x) [ inl k ↦ absurd (omega (arith, k.0, Q.few)) | inr k ↦ absurd (omega (arith, k.0)) ]

  module _ (gp pl : List ℕ) (N : (g : ℕ) → g < length gp → get_or pl g 0 < length sp) where
    -- rule 10: a place that is a node's own or has a side of it is at or below it
    pub nested_below : (c : ℕ) → c < length gp → T (nested_by sp gp pl c) ↔ (up gp c < length gp → Below sp (get_or pl (up gp c) 0) (get_or pl c 0))
    unfolding nested_by pick
    nested_below c l =
        let u = get_or gp c 0 in
        let e = up_at gp c l in
        let x = get_or pl c 0 in
        let a = get_or pl u 0 in
        let s = side_of sp a x in
        rw e (elim (dec_lt u (length gp)) [
          | no n ↦ rw (le-ltb u (length gp) (omega arith)) ((λ t z. absurd (n z)), (λ f. tt))
          | yes y ↦ rw (lt-ltb u (length gp) y) (
            (λ t z. elim (or_cases (eqb x a) (not (eqb s none)) t) [
              | inl q ↦ rw (eqb→eq x a q) (here (N u y))
              | inr q ↦ elim (side_cases Q a x) [
                | inl k ↦ trans k.2 (step k.0 (rw k.1 (here (N u y))))
                | inr k ↦ absurd (T_not (eqb s none) q (rw k.0 tt))
              ]
            ]),
            (λ f. elim (via_kid (f y)) [
              | inl q ↦ or_left (eqb x a) (not (eqb s none)) (rw q (eqb_refl a))
              | inr k ↦ or_right (eqb x a) (not (eqb s none))
                  (not_T (eqb s none) (λ z. absurd (omega (arith, eqb→eq s none z, side_is Q a x k.0 k.2 k.1 k.3, k.1, Q.few))))
            ]),
          )
        ])

    module _ (lb : List ℕ) where
      -- rule 11: two places with a side each, and not the same, lie apart
      pub parted_apart : (g : ℕ) → g < length gp → T (parted_by sp gp pl lb g) ↔ (get_or lb g 0 ≡ 1 → Apart sp (get_or pl g 0) (get_or pl (kid gp g 0) 0) (get_or pl (kid gp g 1) 0))
      unfolding parted_by
      parted_apart g l =
          let k = get_or lb g 0 in
          let a = get_or pl g 0 in
          let x = get_or pl (kid gp g 0) 0 in
          let y = get_or pl (kid gp g 1) 0 in
          let b = either_side (side_of sp a x) (side_of sp a y) in
          let A = sides_apart a x y (N g l) in
          let E = either_is (side_of sp a x) (side_of sp a y) in (
            (λ t e. A.1 (E.0 (elim (or_cases (not (eqb k 1)) b t) [ inl n ↦ absurd (T_not (eqb k 1) n (rw e tt)) | inr z ↦ z ]))),
            (λ f. elim (ℕ_discrete k 1) [ no n ↦ or_left (not (eqb k 1)) b (rw (ne_eqb k 1 n) tt) | yes e ↦ or_right (not (eqb k 1)) b (E.1 (A.0 (f e))) ]),
          )

      -- what is known of a speciation's two children settles rule 11
      pub parted_known : ((g : ℕ) → g < length gp → get_or lb g 0 ≡ 1 → Inner gp g) → (sides : List ℕ) → Seen sp gp pl (length gp) sides
          → (g : ℕ) → g < length gp → parted_in lb sides g ≡ parted_by sp gp pl lb g
      unfolding parted_in parted_by
      parted_known K sides D g l =
          let k = get_or lb g 0 in
          let v = get_or sides g 0 in
          let s = side_of sp (get_or pl g 0) (get_or pl (kid gp g 0) 0) in
          let t = side_of sp (get_or pl g 0) (get_or pl (kid gp g 1) 0) in
          let m = merged_two s t (side_node (get_or pl g 0) (get_or pl (kid gp g 0) 0)) in
          elim (ℕ_discrete k 1) [
            | no n ↦ rw (ne_eqb k 1 n)
            | yes e ↦
                let i = K g l e in
                let value : v ≡ merged (merged unseen s) t =
                seen_end sp gp pl sides g D l i
                ∙ ap₂ (λ (m n : ℕ). merged (merged unseen (side_of sp (get_or pl m 0) (get_or pl (kid gp g 0) 0))) (side_of sp (get_or pl n 0) (get_or pl (kid gp g 1) 0))) (kid_first gp g i).1 (kid_second gp g i).1 in
                rw (eq-eqb k 1 e)
                (T-same (not (eqb v none)) (either_side s t)
                (λ p. (either_is s t).1 (λ z. T_not (eqb v none) p (rw (value ∙ m.1 z) tt)))
                (λ p. not_T (eqb v none) (λ z. (either_is s t).0 p (m.0 (sym value ∙ eqb→eq v none z)))))
          ]
