-- One answer only: any two results that meet a contract of this crate are equal. Assumes nothing.
use Rattle.std.specs.Prelude.{Ok, Err}
use Rattle.std.proofs.Common.{◌≡◌, ℕ, List, ap}
use Rattle.trees.specs.One.{Single}
use Rattle.trees.proofs.Bools.{clash}
use Rattle.trees.proofs.One.{single_value, single_view}
use Rattle.trees.proofs.Rulings.{refusal_one}
use Rattle.blocks.specs.Blocks.{Sums}
use Rattle.blocks.specs.Answers.{sums_of, framed_of}
use Rattle.blocks.specs.Promises.{WordAtMeets, AddUpMeets, SealedMeets, JudgeBlocksMeets}
use Rattle.blocks.specs.declared.check.Sums as kept
use Rattle.blocks.specs.Answers.{Framed}

sums_one : (a b : kept.Sums) → sums_of a ≡ sums_of b → a ≡ b
sums_one a b e = ap (λ (s : Sums). record { 0 = s.a; 1 = s.b }) e

pub framed_one : (a b : Framed) → framed_of a ≡ framed_of b → a ≡ b
framed_one (Ok n) (Ok m) e = let f : n ≡ m = cc in ap Ok f
framed_one (Ok n) (Err s) e = clash (cc)
framed_one (Err r) (Ok m) e = clash (cc)
framed_one (Err r) (Err s) e = ap Err (refusal_one r s e)

-- ---- one theorem for each public function

pub word_at_one : (s : List ℕ) (at : ℕ) → Single (WordAtMeets s at)
word_at_one s at = single_value _

pub add_up_one : (b : List ℕ) → Single (AddUpMeets b)
add_up_one b = single_view sums_of sums_one _

pub sealed_one : (b : List ℕ) → Single (SealedMeets b)
sealed_one b = single_value _

pub judge_blocks_one : (image : List ℕ) (limit : ℕ) → Single (JudgeBlocksMeets image limit)
judge_blocks_one image limit = single_view framed_of framed_one _
