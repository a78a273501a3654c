-- One answer only: any two results that meet a contract of this crate are equal. Assumes nothing.
use Prim.Native.Nat.{ℕ, ◌*◌}
use lib.ListN.{length, get_or}
use native.Mathlib.Omega.{arith}
use mathlib.Core.Path.{◌≡◌, sym, ap, ◌∙◌}
use mathlib.Core.Logic.{⊎_elim}
use mathlib.Core.List.{List, [], ◌∷◌}
use Rattle.trees.specs.One.{Single}
use Rattle.trees.proofs.One.{single_value}
use Rattle.words.specs.Promises.{OffsetOfMeets, NextMeets, TogetherMeets, BytesOfMeets, LongAtMeets, LongFromMeets, NthMeets, FromWordMeets, CopyMeets, ReadMeets, CopyWordsMeets, CopyLongsMeets, NthWordMeets, ReadWordsMeets, ReadLongsMeets, BlankFromMeets}
use Rattle.words.specs.contracts.entry.U16Entry.TheImpl as words
use Rattle.words.specs.contracts.entry.U32Entry.TheImpl as longs

-- ---- where a word stands

pub offset_of_one : (i : ℕ) → Single (OffsetOfMeets i)
offset_of_one i = single_value _

pub next_one : (at : ℕ) → Single (NextMeets at)
next_one at = single_value _

-- as many as are left, or as many as reach the end of the block, whichever are fewer
pub together_one : (i n : ℕ) → Single (TogetherMeets i n)
together_one i n a b p q = ⊎_elim (λ e. ⊎_elim (λ f. omega arith) (λ f. omega arith) q.most) (λ e. ⊎_elim (λ f. omega arith) (λ f. omega arith) q.most) p.most

pub bytes_of_one : (image : List ℕ) (i m : ℕ) → Single (BytesOfMeets image i m)
bytes_of_one image i m a b p q = p.2 ∙ sym q.2

pub long_at_one : (s : List ℕ) (at : ℕ) → Single (LongAtMeets s at)
long_at_one s at = single_value _

pub long_from_one : (s : List ℕ) (at : ℕ) → Single (LongFromMeets s at)
long_from_one s at = single_value _

-- ---- what is answered, or what the lent table holds

pub copy_one : {E : Type 0} (entries : List ℕ → List E) (bytes : List ℕ) (out : List E) → Single (CopyMeets entries bytes out)
copy_one entries bytes out = single_value _

pub read_one : {E : Type 0} (size : ℕ) (entries : List ℕ → List E) (image : List ℕ) (i : ℕ) (out : List E) → Single (ReadMeets size entries image i out)
read_one size entries image i out = single_value _

pub copy_words_one : (bytes out : List ℕ) → Single (CopyWordsMeets bytes out)
copy_words_one bytes out = single_value _

pub copy_longs_one : (bytes out : List ℕ) → Single (CopyLongsMeets bytes out)
copy_longs_one bytes out = single_value _

pub nth_word_one : (image : List ℕ) (i : ℕ) → Single (NthWordMeets image i)
nth_word_one image i = single_value _

pub read_words_one : (image : List ℕ) (i : ℕ) (out : List ℕ) → Single (ReadWordsMeets image i out)
read_words_one image i out = single_value _

pub read_longs_one : (image : List ℕ) (i : ℕ) (out : List ℕ) → Single (ReadLongsMeets image i out)
read_longs_one image i out = single_value _

pub blank_from_one : (image : List ℕ) (i : ℕ) → Single (BlankFromMeets image i)
blank_from_one image i = single_value _

-- ---- an entry

same_entry : {E : Type 0} (l : List E) (a b : E) → l ≡ a ∷ [] → l ≡ b ∷ [] → a ≡ b
same_entry l a b p q = ap (λ m. get_or m 0 a) (sym p ∙ q)

pub nth_one : {E : Type 0} (size : ℕ) (entries : List ℕ → List E) (bytes : List ℕ) (k : ℕ) → Single (NthMeets size entries bytes k)
nth_one size entries bytes k a b p q = same_entry _ a b p q

pub from_word_one : {E : Type 0} (size : ℕ) (entries : List ℕ → List E) (image : List ℕ) (i : ℕ) → Single (FromWordMeets size entries image i)
from_word_one size entries image i a b p q = same_entry _ a b p q

-- ---- what `copy` and `read` promise of numbers of 16 and of 32 bits, whose words and entries are what the two impls say

pub copy_words_meets : (bytes out left : List ℕ) → CopyMeets words.ghosts.entries bytes out left → CopyWordsMeets bytes out left
copy_words_meets bytes out left h = h

pub copy_longs_meets : (bytes out left : List ℕ) → CopyMeets longs.ghosts.entries bytes out left → CopyLongsMeets bytes out left
copy_longs_meets bytes out left h = h

pub read_words_meets : (image : List ℕ) (i : ℕ) (out left : List ℕ) → ReadMeets words.ghosts.WORDS words.ghosts.entries image i out left → ReadWordsMeets image i out left
read_words_meets image i out left h = let z : 1 * length out ≡ length out = omega arith in rw z at h

pub read_longs_meets : (image : List ℕ) (i : ℕ) (out left : List ℕ) → ReadMeets longs.ghosts.WORDS longs.ghosts.entries image i out left → ReadLongsMeets image i out left
read_longs_meets image i out left h = h
