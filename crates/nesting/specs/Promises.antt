-- What the one public function of this crate promises: what the searches of rules 10 and 11 do.
--   JudgeNestingMeets .. r <-> r is refusal 10 at the lowest gene node that fails its test, else 11, else sound
-- Assumes nothing.
use Rattle.std.specs.Prelude.{ℕ, List}
use Rattle.trees.specs.Answers.{Judged}
use Rattle.sides.specs.Promises.{JudgeSidesMeets}

abbrev pub JudgeNestingMeets : List ℕ → List ℕ → List ℕ → List ℕ → Judged → Type 0
JudgeNestingMeets sp gp pl lb r = JudgeSidesMeets sp gp pl lb r
