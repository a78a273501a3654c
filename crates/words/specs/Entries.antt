-- What an entry of a table is: so many words each, and what words mean as entries.
--   EntryLaws size entries <-> the entries of words stand in the order of the words, `size` words each
-- A number of 16 bits is a word, and the entries of words are the words; one of 32 bits is two words, and the entries are `longs_of` the words.
-- Assumes nothing.
use Rattle.std.specs.Prelude.{ℕ, ◌*◌, ◌<◌, ◌≡◌, List, length, take, drop}
use Rattle.std.proofs.Common.{ap, ◌∙◌, arith}
use Rattle.blocks.specs.Halves.{longs_of}
use Rattle.blocks.proofs.Halves.{length_joined, take_joined, drop_joined}

pub record EntryLaws {E : Type 0} (size : ℕ) (entries : List ℕ → List E) : Type 0 where
  pub some : 0 < size
  pub many : (n : ℕ) (w : List ℕ) → length w ≡ size * n → length (entries w) ≡ n
  pub front : (k : ℕ) (w : List ℕ) → take k (entries w) ≡ entries (take (size * k) w)
  pub rest : (k : ℕ) (w : List ℕ) → drop k (entries w) ≡ entries (drop (size * k) w)

pub word_laws : EntryLaws 1 (λ w. w)
word_laws = record {
  some = omega arith;
  many = λ n w e. e ∙ omega arith;
  front = λ k w. ap (λ (n : ℕ). take n w) (omega arith);
  rest = λ k w. ap (λ (n : ℕ). drop n w) (omega arith);
}

pub long_laws : EntryLaws 2 longs_of
long_laws = record {
  some = omega arith;
  many = λ n w e. length_joined 65536 n w e;
  front = take_joined 65536;
  rest = drop_joined 65536;
}
