-- `offers::judge_leaves`: leaves that are known to be at home are not looked at again. Assumes nothing.
use Rattle.trees.proofs.Bools.{true_T}
use Rattle.offers.proofs.Descents.{leaves_known}
use Rattle.offers.proofs.judge_leaves.Goals as goal

pub returns-then-homed : goal.returns-then-homed
returns-then-homed c = leaves_known _ _ _ (c.requires.1 (true_T {b = c.args.homed} c.if-homed.true))
