-- `rounds::judge_known`: the quick pass says that the rule holds, or the scan finds the lowest node that fails it. Assumes nothing.
use mathlib.Core.Path.{sym}
use Rattle.trees.proofs.Bools.{true_T}
use Rattle.trees.proofs.Rulings.{one_passed}
use Rattle.rounds.proofs.judge_known.Goals as goal

pub returns-then-all_held : goal.returns-then-all_held
returns-then-all_held c = sym (one_passed 6 2 _ _ (c.all_held.ensures (true_T c.if-all_held.true)).known)
