-- Numbers as two halves each, the low one first: words as bytes, numbers of 32 bits as words.
--   Under m l      <-> every entry of l is below m
--   halves b l     == each number as its two digits in base b, low first
--   joined b l     == each two digits as one number again
--   bytes_of w     == the bytes of words of 16 bits                                   (01, "numbers low byte first")
--   words_of s     == the words that bytes hold
--   low_high_lem l == the words of numbers of 32 bits                                     (01, "two words each, low first")
--   longs_of w     == the numbers of 32 bits that words hold
-- Assumes nothing.
use Rattle.std.specs.Prelude.{ℕ, ◌+◌, ◌*◌, ◌/◌, ◌%◌, ◌<◌, List, [], ◌∷◌, slice_index}

-- (an index past the end reads as 0, so it is below m too, unless m is 0)
abbrev pub Under : ℕ → List ℕ → Type 0
Under m l = (i : ℕ) → slice_index l i < m

unfoldable pub halves : ℕ → List ℕ → List ℕ
halves b [] = []
halves b (x ∷ l) = (x % b) ∷ (x / b) ∷ halves b l

unfoldable pub joined : ℕ → List ℕ → List ℕ
joined b [] = []
joined b (x ∷ []) = []
joined b (x ∷ y ∷ l) = (x + b * y) ∷ joined b l

abbrev pub bytes_of : List ℕ → List ℕ
bytes_of w = halves 256 w

abbrev pub words_of : List ℕ → List ℕ
words_of s = joined 256 s

abbrev pub low_high_lem : List ℕ → List ℕ
low_high_lem l = halves 65536 l

abbrev pub longs_of : List ℕ → List ℕ
longs_of w = joined 65536 w
