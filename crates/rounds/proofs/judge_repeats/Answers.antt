-- `rounds::judge_repeats`: the quick pass says that the rule holds, or the scan finds the lowest node that fails it. Assumes nothing.
use mathlib.Core.Path.{sym}
use Rattle.trees.proofs.Bools.{true_T}
use Rattle.trees.proofs.Rulings.{one_passed}
use Rattle.rounds.proofs.judge_repeats.Goals as goal

pub returns-then-all_apart : goal.returns-then-all_apart
returns-then-all_apart c = sym (one_passed 5 1 _ _ (c.all_apart.ensures (true_T c.if-all_apart.true)).fresh)
