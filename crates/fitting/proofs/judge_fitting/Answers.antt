-- `fitting::judge_fitting`: where the quick test says yes, no node is unfit. Assumes nothing.
use mathlib.Core.Path.{sym}
use Rattle.trees.proofs.Bools.{true_T}
use Rattle.trees.proofs.Rulings.{one_passed}
use Rattle.fitting.proofs.judge_fitting.Goals as goal

pub returns-then-all_fitting : goal.returns-then-all_fitting
returns-then-all_fitting c = sym (one_passed 8 2 _ _ (c.all_fitting.ensures (true_T {b = c.all_fitting.result} c.if-all_fitting.true)))
