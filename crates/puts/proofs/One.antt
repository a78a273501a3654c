-- One answer only: any two results that meet a contract of this crate are equal. Assumes nothing.
use Prim.Native.Nat.{ℕ}
use mathlib.Core.Path.{◌≡◌, sym, ◌∙◌}
use mathlib.Core.List.{List}
use Rattle.trees.specs.One.{Single}
use Rattle.trees.proofs.One.{single_value}
use Rattle.words.specs.Words.{offset, Within}
use Rattle.puts.specs.Promises.{PutMeets, PutEntryMeets, NextEntryMeets, PutWordsMeets, PutLongsMeets, PutZerosMeets, SealAllMeets}
use Rattle.puts.specs.contracts.word.U16Put.TheImpl as shorts
use Rattle.puts.specs.contracts.word.U32Put.TheImpl as longs

-- what the lent image holds
pub put_one : {E : Type 0} (words : List E → List ℕ) (image : List ℕ) (i : ℕ) (table : List E) → Single (PutMeets words image i table)
put_one words image i table = single_value _

pub put_words_one : (image : List ℕ) (i : ℕ) (table : List ℕ) → Single (PutWordsMeets image i table)
put_words_one image i table = single_value _

pub put_longs_one : (image : List ℕ) (i : ℕ) (table : List ℕ) → Single (PutLongsMeets image i table)
put_longs_one image i table = single_value _

pub put_zeros_one : (image : List ℕ) (i : ℕ) → Single (PutZerosMeets image i)
put_zeros_one image i = single_value _

pub seal_all_one : (image : List ℕ) → Single (SealAllMeets image)
seal_all_one image = single_value _

-- ---- an entry, put as the words from word i on

module _ {E : Type 0} (size : ℕ) (words : List E → List ℕ) (image : List ℕ) (at i : ℕ) (here : at ≡ offset i) where
  pub put_entry_one : (x : E) → Within image i size → Single (PutEntryMeets size words image at x)
  put_entry_one x room a b p q = p i here room ∙ sym (q i here room)

  pub next_entry_one : Single (NextEntryMeets size at)
  next_entry_one a b p q = p i here ∙ sym (q i here)

-- ---- what `put` promises of numbers of 16 and of 32 bits, whose words are what the two impls say

pub put_words_meets : (image : List ℕ) (i : ℕ) (table left : List ℕ) → PutMeets shorts.ghosts.words image i table left → PutWordsMeets image i table left
put_words_meets image i table left h = h

pub put_longs_meets : (image : List ℕ) (i : ℕ) (table left : List ℕ) → PutMeets longs.ghosts.words image i table left → PutLongsMeets image i table left
put_longs_meets image i table left h = h
