-- The words of a text, one after the other: blanks are skipped, and what stands up to the next blank or the end is a word.
-- Assumes nothing.
use Prim.Native.Nat.{ℕ, ◌≤◌}
use native.Mathlib.Omega.{arith}
use mathlib.Core.Path.{◌≡◌, refl, ap}
use mathlib.Core.Logic.{◌⊎◌, inl, inr}
use mathlib.Core.Bool.{true, false}
use mathlib.Core.List.{List, [], ◌∷◌}
use lib.ListN.{length, get_or, drop}
use borrow.Author.Tests.{not-true, not-false}
use Rattle.trees.specs.Lists.{pick}
use Rattle.trees.proofs.Bools.{test, clash}
use Rattle.numbers.specs.Words.{blank, opens, grown, words}
use Rattle.numbers.specs.Cursor.{gap, word_of}

-- ---- the word that a text begins with

pub word_none : (l : List ℕ) → opens l ≡ false → word_of l ≡ []
unfolding opens word_of pick
word_none [] e = refl
word_none (b ∷ l) e = rw (not-false (blank b) e)

pub word_some : (b : ℕ) (l : List ℕ) → blank b ≡ false → word_of (b ∷ l) ≡ b ∷ word_of l
unfolding word_of pick
word_some b l e = rw e

pub word_opens : (l : List ℕ) → 1 ≤ length (word_of l) → opens l ≡ true
word_opens l h = elim (test (opens l)) [ inl o ↦ o | inr o ↦ absurd (omega (arith, ap length (word_none l o))) ]

pub word_few : (l : List ℕ) → length (word_of l) ≤ length l
unfolding word_of pick
word_few [] = omega arith
word_few (b ∷ l) = elim (test (blank b)) [ inl e ↦ rw e (omega arith) | inr e ↦ rw e (omega (arith, word_few l)) ]

-- a text that begins with a byte of a word begins with the whole word
pub words_opens : (l : List ℕ) → opens l ≡ true → words l ≡ word_of l ∷ words (drop (length (word_of l)) l)
unfolding opens word_of words grown pick
words_opens [] e = clash (cc)
words_opens (b ∷ l) e =
    elim (test (opens l)) [
      | inl o ↦ rw (not-true (blank b) e, o, words_opens l o)
      | inr o ↦ rw (not-true (blank b) e, o, word_none l o)
    ]

pub words_blank : (b : ℕ) (l : List ℕ) → blank b ≡ true → words (b ∷ l) ≡ words l
unfolding words pick
words_blank b l e = rw e

-- ---- blanks

pub gap_words : (l : List ℕ) → words (drop (gap l) l) ≡ words l
unfolding gap pick
gap_words [] = refl
gap_words (b ∷ l) = elim (test (blank b)) [ inl e ↦ rw (e, words_blank b l e) (gap_words l) | inr e ↦ rw e ]

-- behind the blanks there is a word, or nothing
pub gap_cases : (l : List ℕ) → (opens (drop (gap l) l) ≡ true) ⊎ (drop (gap l) l ≡ [])
unfolding gap opens pick
gap_cases [] = inr refl
gap_cases (b ∷ l) = elim (test (blank b)) [ inl e ↦ rw e (gap_cases l) | inr e ↦ inl (rw (e, e)) ]

pub gap_few : (l : List ℕ) → gap l ≤ length l
unfolding gap pick
gap_few [] = omega arith
gap_few (b ∷ l) = elim (test (blank b)) [ inl e ↦ rw e (omega (arith, gap_few l)) | inr e ↦ rw e (omega arith) ]

-- ---- the first word

pub first_word : (l : List ℕ) → get_or (words l) 0 [] ≡ word_of (drop (gap l) l)
unfolding words word_of
first_word l =
    elim (gap_cases l) [
      | inl o ↦ rw (← gap_words l, words_opens (drop (gap l) l) o)
      | inr e ↦ rw (← gap_words l, e)
    ]
