-- What each public function promises: of the contents at entry, in the order of the parameters, the answer, and the final content of what is lent.
--   OffsetOfMeets i r              <-> r is the byte at which word i stands
--   NextMeets at r                 <-> r is the byte at which the word behind the one at `at` stands
--   TogetherMeets i n r            <-> r is how many of the n words from word i on stand in its block
--   BytesOfMeets image i m r       <-> r is the bytes of the m words from i on, which stand in one block
--   LongAtMeets s at r             <-> r is the number of 32 bits whose low word stands at byte `at`, and its high word where the next word stands
--   LongFromMeets s at r           <-> the same, and its high word stands two bytes on
--   CopyMeets entries bytes out left       <-> the lent table holds the entries that the bytes are
--   ReadMeets size entries image i out left <-> the lent table holds the entries, of `size` words each, from word i on
--   NthMeets size entries bytes k r        <-> r is entry k, of `size` words, of the table that the bytes hold side by side
--   FromWordMeets size entries image i r   <-> r is the entry of `size` words whose first word is word i
-- and at the two kinds of entries:
--   CopyWordsMeets bytes out left  <-> the lent table holds the numbers of 16 bits that the bytes are; CopyLongsMeets: those of 32 bits
--   NthWordMeets image i r         <-> r is word i
--   ReadWordsMeets image i out left <-> the lent table holds the words from i on; ReadLongsMeets: the numbers of two words each
--   BlankFromMeets image i r       <-> r says whether all words from i on are zero
-- Assumes nothing.
use Rattle.std.specs.Prelude.{ℕ, ◌+◌, ◌*◌, ◌≡◌, Bool, List, [], ◌∷◌, length, get_or, drop}
use Rattle.blocks.specs.Halves.{words_of, longs_of}
use Rattle.blocks.specs.Blocks.{run, word, content}
use Rattle.blocks.specs.Image.{blank}
use Rattle.words.specs.Words.{offset, after, Together}

abbrev pub OffsetOfMeets : ℕ → ℕ → Type 0
OffsetOfMeets i r = r ≡ offset i

abbrev pub NextMeets : ℕ → ℕ → Type 0
NextMeets at r = r ≡ after at

abbrev pub TogetherMeets : ℕ → ℕ → ℕ → Type 0
TogetherMeets i n r = Together i n r

abbrev pub BytesOfMeets : List ℕ → ℕ → ℕ → List ℕ → Type 0
BytesOfMeets image i m r = (length r ≡ 2 * m) × (words_of r ≡ run i m (content image)) × (r ≡ run (offset i) (2 * m) image)

abbrev pub LongAtMeets : List ℕ → ℕ → ℕ → Type 0
LongAtMeets s at r = r ≡ word s at + 65536 * word s (after at)

abbrev pub LongFromMeets : List ℕ → ℕ → ℕ → Type 0
LongFromMeets s at r = r ≡ word s at + 65536 * word s (at + 2)

abbrev pub CopyMeets : {E : Type 0} → (List ℕ → List E) → List ℕ → List E → List E → Type 0
CopyMeets entries bytes out left = left ≡ entries (words_of bytes)

abbrev pub ReadMeets : {E : Type 0} → ℕ → (List ℕ → List E) → List ℕ → ℕ → List E → List E → Type 0
ReadMeets size entries image i out left = left ≡ entries (run i (size * length out) (content image))

abbrev pub NthMeets : {E : Type 0} → ℕ → (List ℕ → List E) → List ℕ → ℕ → E → Type 0
NthMeets size entries bytes k r = entries (words_of (run (2 * (size * k)) (2 * size) bytes)) ≡ r ∷ []

abbrev pub FromWordMeets : {E : Type 0} → ℕ → (List ℕ → List E) → List ℕ → ℕ → E → Type 0
FromWordMeets size entries image i r = entries (run i size (content image)) ≡ r ∷ []

abbrev pub CopyWordsMeets : List ℕ → List ℕ → List ℕ → Type 0
CopyWordsMeets bytes out left = left ≡ words_of bytes

abbrev pub CopyLongsMeets : List ℕ → List ℕ → List ℕ → Type 0
CopyLongsMeets bytes out left = left ≡ longs_of (words_of bytes)

abbrev pub NthWordMeets : List ℕ → ℕ → ℕ → Type 0
NthWordMeets image i r = r ≡ get_or (content image) i 0

abbrev pub ReadWordsMeets : List ℕ → ℕ → List ℕ → List ℕ → Type 0
ReadWordsMeets image i out left = left ≡ run i (length out) (content image)

abbrev pub ReadLongsMeets : List ℕ → ℕ → List ℕ → List ℕ → Type 0
ReadLongsMeets image i out left = left ≡ longs_of (run i (2 * length out) (content image))

abbrev pub BlankFromMeets : List ℕ → ℕ → Bool → Type 0
BlankFromMeets image i r = r ≡ blank (drop i (content image))
