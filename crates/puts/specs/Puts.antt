-- Words put among bytes.
--   stored s at w == the bytes s with the word w at byte `at`                             (01, "numbers low byte first")
--   puts s i l    == the bytes s with the words l put from word i on, by their number among the words of all blocks, and nothing else changed
--   PutLaws size words <-> the words of entries stand in the order of the entries, `size` words each
-- Assumes nothing.
use Rattle.std.specs.Prelude.{ℕ, suc, ◌+◌, ◌*◌, ◌/◌, ◌%◌, ◌≡◌, List, [], ◌∷◌, ◌++◌, length, set, refl}
use Rattle.std.proofs.Common.{arith}
use Rattle.blocks.specs.Halves.{halves, low_high_lem}
use Rattle.blocks.proofs.Halves.{length_halves, halves_append}
use Rattle.words.specs.Words.{offset}

abbrev pub stored : List ℕ → ℕ → ℕ → List ℕ
stored s at w = set (set s at (w % 256)) (at + 1) (w / 256)

unfoldable pub puts : List ℕ → ℕ → List ℕ → List ℕ
puts s i [] = s
puts s i (w ∷ l) = puts (stored s (offset i) w) (suc i) l

pub record PutLaws {E : Type 0} (size : ℕ) (words : List E → List ℕ) : Type 0 where
  pub none : words [] ≡ []
  pub many : (l : List E) → length (words l) ≡ size * length l
  pub both : (l m : List E) → words (l ++ m) ≡ words l ++ words m

pub word_laws : PutLaws 1 (λ l. l)
word_laws = record { none = refl; many = λ l. omega arith; both = λ l m. refl }

pub long_laws : PutLaws 2 low_high_lem
long_laws = record { none = unfold halves in refl; many = length_halves 65536; both = halves_append 65536 }
