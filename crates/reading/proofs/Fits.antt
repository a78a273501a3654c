-- Words that fit widths, in parts. Assumes nothing.
use Prim.Native.Nat.{ℕ, ◌^◌, ◌≤◌, ◌<◌}
use native.Mathlib.Nat.{lt_of_lt_of_le}
use mathlib.Core.Path.{◌≡◌, refl, ◌∙◌}
use mathlib.Core.Logic.{inl, inr}
use mathlib.Core.Bool.{true, false}
use mathlib.Core.List.{List, [], ◌∷◌, ◌++◌}
use lib.ListN.{get_or}
use lib.Pow.{pow_mono}
use lib.Dec.{T, ltb}
use borrow.Author.Tests.{lt-ltb, le-ltb}
use Rattle.trees.proofs.Bools.{and_both, and_left, and_right, test, T_true, true_T, clash}
use Rattle.numbers.specs.Numbers.{value, is_number}
use Rattle.reading.specs.Reading.{fits}
use Rattle.numbers.proofs.Digits.{number_is, is_number_fits}

-- ---- a number of 32 bits at another width

module _ (k : ℕ) (w : List ℕ) (t : T (is_number 32 w)) where
  same_number : is_number k w ≡ ltb (value w) (2 ^ k)
  same_number = let n = number_is 32 w t in is_number_fits k w n.some n.few n.digits

  pub narrow_number : value w < 2 ^ k → T (is_number k w)
  narrow_number h = true_T (same_number ∙ lt-ltb (value w) (2 ^ k) h)

  pub wide_none : 2 ^ k ≤ value w → is_number k w ≡ false
  wide_none h = same_number ∙ le-ltb (value w) (2 ^ k) h

-- what is no number of 32 bits is none of fewer
pub narrow_none : (k : ℕ) (w : List ℕ) → k ≤ 32 → is_number 32 w ≡ false → is_number k w ≡ false
narrow_none k w h e =
    elim (test (is_number k w)) [
      | inl t ↦
          let n = number_is k w (true_T t) in
          let f : is_number 32 w ≡ true = is_number_fits 32 w n.some n.few n.digits ∙ lt-ltb (value w) (2 ^ 32) (lt_of_lt_of_le n.fits (pow_mono h)) in
          clash (cc)
      | inr f ↦ f
    ]

-- ---- widths and words in two parts

pub fits_split : (bs cs : List ℕ) (us vs : List (List ℕ)) → T (fits bs us) → fits (bs ++ cs) (us ++ vs) ≡ fits cs vs
unfolding fits
fits_split [] cs [] vs t = refl
fits_split [] cs (u ∷ us) vs t = absurd t
fits_split (b ∷ bs) cs [] vs t = absurd t
fits_split (b ∷ bs) cs (u ∷ us) vs t =
    rw (T_true {b = is_number b u} (and_left (is_number b u) (fits bs us) t)) (fits_split bs cs us vs (and_right (is_number b u) (fits bs us) t))

pub fits_one : (b : ℕ) (w : List ℕ) → T (is_number b w) → T (fits (b ∷ []) (w ∷ []))
unfolding fits
fits_one b w t = and_both (is_number b w) true t tt

-- the first word is no number of its width, or there is none
pub fits_none : (b : ℕ) (bs : List ℕ) (ws : List (List ℕ)) → is_number b (get_or ws 0 []) ≡ false → fits (b ∷ bs) ws ≡ false
unfolding fits
fits_none b bs [] e = refl
fits_none b bs (w ∷ ws) e = rw e

-- no width is left
pub fits_nil : (ws : List (List ℕ)) → fits [] ws ≡ true → ws ≡ []
unfolding fits
fits_nil [] e = refl
fits_nil (w ∷ ws) e = clash (cc)
