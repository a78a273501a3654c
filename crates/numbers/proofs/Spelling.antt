-- A word read digit by digit: what has been read spells the value so far. Assumes nothing.
use Prim.Native.Nat.{ℕ, suc, ◌+◌, ◌-◌, ◌*◌, ◌^◌, ◌≤◌, ◌<◌}
use native.Mathlib.Omega.{arith}
use native.Mathlib.Numerals.{add-one}
use native.Mathlib.Decide.{dec_lt}
use mathlib.Core.Path.{◌≡◌, refl, sym, ap, ◌∙◌}
use mathlib.Core.Bool.{false, ◌&&◌}
use mathlib.Core.List.{List, [], ◌∷◌, ◌++◌, append-nil, append_assoc}
use lib.ListN.{length, get_or, drop, length-append}
use lib.Seq.{drop-cons}
use lib.Dec.{T, ltb}
use borrow.Author.Tests.{lt-ltb, le-ltb, ne_eqb}
use Rattle.trees.specs.Lists.{all, pick}
use Rattle.trees.proofs.Bools.{T_true}
use Rattle.numbers.specs.Numbers.{digit, spelled, value}
use Rattle.numbers.specs.Words.{blank, opens}
use Rattle.numbers.specs.Cursor.{word_of, found, nothing, number_at}
use Rattle.numbers.proofs.Digits.{digit_low, all_head, all_tail, all_append, all_fails, value_more, value_small, is_number_fits, empty_none, long_none, odd_none}
use Rattle.numbers.proofs.Words.{word_none, word_some}

digit_solid : (b : ℕ) → T (digit b) → blank b ≡ false
unfolding blank
digit_solid b t =
    let l = digit_low b t in
    rw (ne_eqb b 32 (omega arith), ne_eqb b 10 (omega arith))

-- digits are a part of the word that they begin
pub word_digits : (ds l : List ℕ) → T (all digit ds) → word_of (ds ++ l) ≡ ds ++ word_of l
word_digits [] l t = refl
word_digits (b ∷ ds) l t =
    word_some b (ds ++ l) (digit_solid b (all_head digit b ds t)) ∙ ap (λ m. b ∷ m) (word_digits ds l (all_tail digit b ds t))

-- from `at` up to i there are digits, at most ten, and they spell v
pub record Spelled (text : List ℕ) (at i v : ℕ) : Type 0 where
  pub ds : List ℕ
  pub split : drop at text ≡ ds ++ drop i text
  pub place : i ≡ at + length ds
  pub digits : T (all digit ds)
  pub few : length ds ≤ 10
  pub spells : v ≡ value ds

module _ (text : List ℕ) (at : ℕ) where
  pub spelled_none : Spelled text at at 0
  unfolding all spelled
  spelled_none = record { ds = []; split = refl; place = omega arith; digits = tt; few = omega arith; spells = refl }

  module _ (i v : ℕ) (S : Spelled text at i v) where
    pub spelled_small : v < 10000000000
    spelled_small = rw S.spells (value_small S.ds S.few S.digits)

    -- the word ends here
    pub spelled_end : opens (drop i text) ≡ false → number_at text at ≡ pick (ltb at i && ltb v (2 ^ 32)) (found v i) nothing
    unfolding number_at pick
    spelled_end e =
        let whole : word_of (drop at text) ≡ S.ds = rw (S.split, word_digits S.ds (drop i text) S.digits, word_none (drop i text) e) (append-nil S.ds) in
        let here : i ≡ at + length S.ds = S.place in
        rw (whole, S.spells, here)
        (elim (dec_lt 0 (length S.ds)) [
          | yes h ↦ rw (is_number_fits 32 S.ds h S.few S.digits, lt-ltb at (at + length S.ds) (omega arith))
          | no h ↦ rw (empty_none 32 S.ds (omega arith), le-ltb at (at + length S.ds) (omega arith))
        ])

    module _ (l : i < length text) where
      abbrev b : ℕ
      b = get_or text i 0

      whole_from : blank b ≡ false → word_of (drop at text) ≡ S.ds ++ b ∷ word_of (drop (suc i) text)
      whole_from e =
          rw (S.split, word_digits S.ds (drop i text) S.digits, drop-cons text i 0 l, word_some b (drop (suc i) text) e)

      -- the word goes on with a byte that is no digit
      pub spelled_odd : blank b ≡ false → digit b ≡ false → number_at text at ≡ nothing
      unfolding number_at pick
      spelled_odd e f = rw (whole_from e, odd_none 32 (S.ds ++ b ∷ word_of (drop (suc i) text)) (all_fails digit S.ds b (word_of (drop (suc i) text)) f))

      -- the word goes on behind ten digits
      pub spelled_long : blank b ≡ false → 10 ≤ i - at → number_at text at ≡ nothing
      unfolding number_at pick
      spelled_long e f =
          let here : i ≡ at + length S.ds = S.place in
          rw (whole_from e, long_none 32 (S.ds ++ b ∷ word_of (drop (suc i) text)) (simp length-append (omega arith)))

      -- one digit more
      pub spelled_more : T (digit b) → i - at < 10 → Spelled text at (i + 1) (10 * v + (b - 48))
      unfolding all
      spelled_more t f =
          let here : i ≡ at + length S.ds = S.place in
          record {
            ds = S.ds ++ b ∷ [];
            split = S.split ∙ rw (drop-cons text i 0 l, add-one i, append_assoc S.ds (b ∷ []) (drop (suc i) text));
            place = rw (length-append S.ds (b ∷ [])) (omega arith);
            digits = all_append digit S.ds (b ∷ []) S.digits (rw (T_true {b = digit b} t) tt);
            few = rw (length-append S.ds (b ∷ [])) (omega arith);
            spells = ap (λ n. 10 * n + (b - 48)) S.spells ∙ sym (value_more S.ds b);
          }

-- the same as a loop keeps it: behind ten digits no word that goes on is a number
abbrev pub TooLong : List ℕ → ℕ → ℕ → Type 0
TooLong text at i = i < length text → blank (get_or text i 0) ≡ false → 10 ≤ i - at → nothing ≡ number_at text at

pub spelled_on : (text : List ℕ) (at i v : ℕ) → Spelled text at i v → TooLong text at i
spelled_on text at i v S h e f = sym (spelled_long text at i v S h e f)
