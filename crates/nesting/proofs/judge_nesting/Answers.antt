-- `nesting::judge_nesting`: where the quick test says yes, no node is refused. Assumes nothing.
use Rattle.trees.proofs.Bools.{true_T}
use Rattle.nesting.proofs.Codes.{nests_sound}
use Rattle.nesting.proofs.judge_nesting.Goals as goal

pub returns-then-surely_nested : goal.returns-then-surely_nested
returns-then-surely_nested c = nests_sound c.requires (c.surely_nested.ensures (true_T {b = c.surely_nested.result} c.if-surely_nested.true))
