-- What the readers of numbers promise.
--   number_of r              == the number that was read and the place behind it; nothing for `None`
--   SkipBlanksMeets text at r <-> r is the first place from `at` on with no blank, or the end
--   ReadNumberMeets text at r <-> r is the first word from `at` on, if it is a number of 32 bits
-- Assumes nothing.
use Rattle.std.specs.Prelude.{ℕ, ◌≡◌, List, Option, Some, None}
use Rattle.numbers.specs.Cursor.{Find, found, nothing, past_blanks, number_from}
use Rattle.numbers.specs.declared.Number.{Number}

abbrev pub number_of : Option Number → Find
number_of (Some n) = found n.value n.next
number_of None = nothing

abbrev pub SkipBlanksMeets : List ℕ → ℕ → ℕ → Type 0
SkipBlanksMeets text at r = r ≡ past_blanks text at

abbrev pub ReadNumberMeets : List ℕ → ℕ → Option Number → Type 0
ReadNumberMeets text at r = number_of r ≡ number_from text at
