-- What the reader finds from a place of the text on.
--   gap text            == how many blanks the text begins with
--   word_of text        == the word that the text begins with: its bytes up to the first blank or the end
--   past_blanks text at == the first place from `at` on with no blank, or the end
--   Find                == a number and the place behind it, or nothing
--   number_at text at   == the word that begins at `at`, if it is a number of 32 bits
--   number_from text at == the first word from `at` on, if it is a number of 32 bits
-- Assumes nothing.
use Rattle.std.specs.Prelude.{ℕ, suc, ◌+◌, List, [], ◌∷◌, length, drop}
use Rattle.trees.specs.Lists.{pick}
use Rattle.numbers.specs.Numbers.{value, is_number}
use Rattle.numbers.specs.Words.{blank}

unfoldable pub gap : List ℕ → ℕ
gap [] = 0
gap (b ∷ text) = pick (blank b) (suc (gap text)) 0

unfoldable pub word_of : List ℕ → List ℕ
word_of [] = []
word_of (b ∷ text) = pick (blank b) [] (b ∷ word_of text)

unfoldable pub past_blanks : List ℕ → ℕ → ℕ
past_blanks text at = at + gap (drop at text)

pub data Find : Type 0 where
  found : ℕ → ℕ → Find
  nothing : Find

unfoldable pub number_at : List ℕ → ℕ → Find
number_at text at =
    pick (is_number 32 (word_of (drop at text))) (found (value (word_of (drop at text))) (at + length (word_of (drop at text)))) nothing

unfoldable pub number_from : List ℕ → ℕ → Find
number_from text at = number_at text (past_blanks text at)
