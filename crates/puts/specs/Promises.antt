-- What each public function promises: of the contents at entry, in the order of the parameters, and the final content of the lent image.
--   PutMeets words image i table left <-> left is the image with the words of the table's entries as the words from i on, and nothing else changed
--   PutEntryMeets size words image at x left <-> left is the image with the words of the entry x as those from the one at byte `at` on
--   NextEntryMeets size at r         <-> r is the byte at which the word behind an entry that is put at byte `at` stands
-- and at the two kinds of entries:
--   PutWordsMeets image i table left <-> left is the image with the entries of the table as the words from i on, and nothing else changed
--   PutLongsMeets image i table left <-> the same of two words an entry, low first
--   PutZerosMeets image i left       <-> left is the image with every word zero from word i to the end of the last block
--   SealAllMeets image left          <-> left is the contents of the image in blocks that bear their numbers and checks
-- Assumes nothing.
use Rattle.std.specs.Prelude.{ℕ, ◌+◌, ◌-◌, ◌*◌, ◌≡◌, List, [], ◌∷◌, replicate}
use Rattle.blocks.specs.Halves.{low_high_lem}
use Rattle.blocks.specs.Blocks.{blocks, count, content}
use Rattle.words.specs.Words.{offset, Within}
use Rattle.puts.specs.Puts.{puts}

abbrev pub PutMeets : {E : Type 0} → (List E → List ℕ) → List ℕ → ℕ → List E → List ℕ → Type 0
PutMeets words image i table left = left ≡ puts image i (words table)

abbrev pub PutEntryMeets : {E : Type 0} → ℕ → (List E → List ℕ) → List ℕ → ℕ → E → List ℕ → Type 0
PutEntryMeets size words image at x left = (i : ℕ) → at ≡ offset i → Within image i size → left ≡ puts image i (words (x ∷ []))

abbrev pub NextEntryMeets : ℕ → ℕ → ℕ → Type 0
NextEntryMeets size at r = (i : ℕ) → at ≡ offset i → r ≡ offset (i + size)

abbrev pub PutWordsMeets : List ℕ → ℕ → List ℕ → List ℕ → Type 0
PutWordsMeets image i table left = left ≡ puts image i table

abbrev pub PutLongsMeets : List ℕ → ℕ → List ℕ → List ℕ → Type 0
PutLongsMeets image i table left = left ≡ puts image i (low_high_lem table)

abbrev pub PutZerosMeets : List ℕ → ℕ → List ℕ → Type 0
PutZerosMeets image i left = left ≡ puts image i (replicate (253 * count image - i) 0)

abbrev pub SealAllMeets : List ℕ → List ℕ → Type 0
SealAllMeets image left = left ≡ blocks (count image) (content image)
