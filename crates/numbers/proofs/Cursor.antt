-- What the reader finds from a place of the text on, one byte at a time. Assumes nothing.
use Prim.Native.Nat.{ℕ, ◌+◌, ◌-◌, ◌≤◌, ◌<◌}
use native.Mathlib.Omega.{arith}
use native.Mathlib.Decide.{dec_lt}
use mathlib.Core.Path.{◌≡◌, refl, sym, ◌∙◌}
use mathlib.Core.Logic.{inl, inr}
use mathlib.Core.Bool.{true, false, not}
use mathlib.Core.List.{List, [], ◌∷◌}
use lib.ListN.{length, get_or, take, drop, drop_of_length-le, length-drop}
use lib.Seq.{drop-cons, drop-drop, take-length, length-take-le}
use lib.Dec.{T}
use Rattle.std.specs.List.{prefix_len, take_while}
use Rattle.trees.specs.Lists.{pick}
use Rattle.trees.proofs.Bools.{test, true_T, clash}
use Rattle.numbers.specs.Numbers.{value, is_number}
use Rattle.numbers.specs.Words.{blank, opens, words}
use Rattle.numbers.specs.Cursor.{gap, word_of, past_blanks, found, nothing, number_at, number_from}
use Rattle.numbers.proofs.Digits.{number_is}
use Rattle.numbers.proofs.Words.{word_opens, word_few, words_opens, gap_words, gap_few, first_word}

-- the blanks that a text begins with
gap_prefix : (l : List ℕ) → gap l ≡ prefix_len blank l
unfolding gap pick
gap_prefix [] = refl
gap_prefix (b ∷ l) = elim (test (blank b)) [ inl e ↦ rw (e, gap_prefix l) (omega arith) | inr e ↦ rw e ]

module _ (text : List ℕ) where
  -- ---- does a word go on here?

  pub opens_end : (i : ℕ) → length text ≤ i → opens (drop i text) ≡ false
  unfolding opens
  opens_end i h = rw (drop_of_length-le text h)

  pub opens_at : (i : ℕ) → i < length text → opens (drop i text) ≡ not (blank (get_or text i 0))
  unfolding opens
  opens_at i h = rw (drop-cons text i 0 h)

  pub opens_blank : (i : ℕ) → i < length text → blank (get_or text i 0) ≡ true → opens (drop i text) ≡ false
  opens_blank i h e = rw (opens_at i h, e)

  pub opens_inside : (i : ℕ) → opens (drop i text) ≡ true → i < length text
  opens_inside i e =
      elim (dec_lt i (length text)) [
        | yes h ↦ h
        | no h ↦ let f : opens (drop i text) ≡ false = opens_end i (omega arith) in clash (cc)
      ]

  -- ---- past the blanks

  -- as many places as there are blanks in a row
  pub past_count : (at n : ℕ) → n ≡ length (take_while blank (take (length text - at) (drop at text))) → at + n ≡ past_blanks text at
  unfolding past_blanks
  past_count at n e =
      let rest = drop at text in
      rw (e, ← length-drop at text, take-length rest, ← gap_prefix rest, length-take-le (gap rest) rest (gap_few rest))

  pub past_inside : (i : ℕ) → i ≤ length text → past_blanks text i ≤ length text
  unfolding past_blanks
  past_inside i h = omega (arith, gap_few (drop i text), length-drop i text)

  -- what stands behind the blanks
  past_drop : (i : ℕ) → drop (past_blanks text i) text ≡ drop (gap (drop i text)) (drop i text)
  unfolding past_blanks
  past_drop i = sym (drop-drop (gap (drop i text)) i text)

  past_words : (i : ℕ) → words (drop (past_blanks text i) text) ≡ words (drop i text)
  past_words i = rw (past_drop i) (gap_words (drop i text))

  past_first : (i : ℕ) → get_or (words (drop i text)) 0 [] ≡ word_of (drop (past_blanks text i) text)
  past_first i = rw (past_drop i) (first_word (drop i text))

-- the first word from `at` on is a number of 32 bits, v, and the other words stand behind `next`
pub record Got (text : List ℕ) (at v next : ℕ) : Type 0 where
  pub own : List ℕ
  pub split : words (drop at text) ≡ own ∷ words (drop next text)
  pub number : T (is_number 32 own)
  pub told : v ≡ value own
  pub inside : next ≤ length text

module _ (text : List ℕ) (at : ℕ) where
  pub number_none : nothing ≡ number_from text at → is_number 32 (get_or (words (drop at text)) 0 []) ≡ false
  unfolding number_from number_at pick
  number_none e =
      rw (past_first text at)
      (elim (test (is_number 32 (word_of (drop (past_blanks text at) text)))) [
        | inl t ↦ let q = rw t at e in clash (cc)
        | inr f ↦ f
      ])

  pub number_got : (v next : ℕ) → at ≤ length text → found v next ≡ number_from text at → Got text at v next
  unfolding number_from number_at pick
  number_got v next h e =
      let s = past_blanks text at in
      let l = drop s text in
      let w = word_of l in
      elim (test (is_number 32 w)) [
        | inl t ↦
            let q : found v next ≡ found (value w) (s + length w) = rw t at e in
            let n : next ≡ s + length w = cc in
            let k = number_is 32 w (true_T t) in
            record {
              own = w;
              split = sym (past_words text at) ∙ words_opens l (word_opens l k.some) ∙ rw (n, drop-drop (length w) s text);
              number = true_T t;
              told = cc;
              inside = rw n (omega (arith, word_few l, length-drop s text, past_inside text at h));
            }
        | inr f ↦ let q : found v next ≡ nothing = rw f at e in clash (cc)
      ]
