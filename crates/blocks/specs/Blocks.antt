-- Blocks of 512 bytes.                                                               (01, "The stored image, form 1")
--   run i k l       == the k entries of l from entry i on
--   word s at       == the number whose low byte stands at `at`                      (01, "numbers low byte first")
--   Sums, start     == the sums A and B; as they start                               (01, "Both start at 0")
--   grown s x       == the sums after one more byte x                                (01, "A grows by the byte and B by the new A, both wrapping at 65,536")
--   sums s l        == the sums after the bytes l, in order, from s on
--   check l         == the sums over l, as two words                                 (01, "the check, sums A and B")
--   block k w       == block number k with the content w: its number, its words, its check
--   blocks n l      == n blocks, numbered from 0, of 253 words of l each             (01, "block number from 0")
--   part s k        == block k of the bytes s                                        (01, "a part of the image in its own right")
--   checked b       == 14: is the check of block b that of its bytes 0 to 507?
--   numbered k b    == 15: is k the number of block b?
--   inside b        == the words of the content of block b                           (01, "Bytes 2-507: content, 253 words of 16 bits")
--   contents n s    == the words of the first n blocks of s                          (01, "The words of all blocks in order")
--   count s         == how many blocks s has
--   content s       == the words of all of them
--   Whole s         <-> s is blocks and nothing else, and their numbers fit 16 bits
-- Assumes nothing.
use Rattle.std.specs.Prelude.{◌≡◌, ℕ, zero, suc, ◌+◌, ◌*◌, ◌/◌, ◌%◌, ◌≤◌, Bool, ◌&&◌, List, [], ◌∷◌, ◌++◌, length, take, drop, ◌==◌, slice_index}
use Rattle.blocks.specs.Halves.{bytes_of, words_of}

abbrev pub run : ℕ → ℕ → List ℕ → List ℕ
run i k l = take k (drop i l)

abbrev pub word : List ℕ → ℕ → ℕ
word s at = slice_index s at + 256 * slice_index s (at + 1)

pub record Sums : Type 0 where
  pub a : ℕ
  pub b : ℕ

abbrev pub start : Sums
start = record { a = 0; b = 0 }

abbrev pub grown : Sums → ℕ → Sums
grown s x = record { a = (s.a + x) % 65536; b = (s.b + (s.a + x) % 65536) % 65536 }

unfoldable pub sums : Sums → List ℕ → Sums
sums s [] = s
sums s (x ∷ l) = sums (grown s x) l

unfoldable pub check : List ℕ → List ℕ
check l = (sums start l).a ∷ (sums start l).b ∷ []

unfoldable pub block : ℕ → List ℕ → List ℕ
block k w = bytes_of (k ∷ w) ++ bytes_of (check (bytes_of (k ∷ w)))

unfoldable pub blocks : ℕ → List ℕ → List ℕ
blocks zero l = []
blocks (suc n) l = blocks n l ++ block n (run (253 * n) 253 l)

unfoldable pub part : List ℕ → ℕ → List ℕ
part s k = run (512 * k) 512 s

unfoldable pub checked : List ℕ → Bool
checked b = word b 508 == (sums start (take 508 b)).a && word b 510 == (sums start (take 508 b)).b

unfoldable pub numbered : ℕ → List ℕ → Bool
numbered k b = word b 0 == k

unfoldable pub inside : List ℕ → List ℕ
inside b = words_of (run 2 506 b)

unfoldable pub contents : ℕ → List ℕ → List ℕ
contents zero s = []
contents (suc n) s = contents n s ++ inside (part s n)

abbrev pub count : List ℕ → ℕ
count s = length s / 512

abbrev pub content : List ℕ → List ℕ
content s = contents (count s) s

pub record Whole (s : List ℕ) : Type 0 where
  pub all : length s ≡ 512 * count s
  pub few : count s ≤ 65536
