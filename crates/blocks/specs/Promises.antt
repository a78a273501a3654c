-- What each public function promises: of the contents at entry, in the order of the parameters, the answer, and the final content of what is lent.
--   WordAtMeets s at r        <-> r is the word at byte `at`
--   AddUpMeets b r            <-> r is the sums over the bytes 0 to 507 of the block b
--   SealedMeets b r           <-> r says whether the check of the block b is that of its bytes
--   JudgeBlocksMeets image limit r <-> r is 13, 14 or 15, each at its lowest block, or how many blocks there are
-- Assumes nothing.
use Rattle.std.specs.Prelude.{◌≡◌, ℕ, Bool, List, take}
use Rattle.trees.specs.Rulings.{ruling}
use Rattle.blocks.specs.Blocks.{word, start, sums, checked, count}
use Rattle.blocks.specs.Image.{block_rules}
use Rattle.blocks.specs.Answers.{sums_of, framed_of}
use Rattle.blocks.specs.declared.check.Sums.{Sums}
use Rattle.blocks.specs.Answers.{Framed}

abbrev pub WordAtMeets : List ℕ → ℕ → ℕ → Type 0
WordAtMeets s at r = r ≡ word s at

abbrev pub AddUpMeets : List ℕ → Sums → Type 0
AddUpMeets b r = sums_of r ≡ sums start (take 508 b)

abbrev pub SealedMeets : List ℕ → Bool → Type 0
SealedMeets b r = r ≡ checked b

abbrev pub JudgeBlocksMeets : List ℕ → ℕ → Framed → Type 0
JudgeBlocksMeets image limit r = framed_of r ≡ ruling (block_rules limit image) (count image)
