-- `reaches::judge_roots`: where parents come first rules 2 and 38 hold; else rule 2, and then 38. Assumes nothing.
use mathlib.Core.Path.{sym, ◌∙◌}
use Rattle.trees.specs.Rulings.{fine}
use Rattle.trees.proofs.Bools.{true_T}
use Rattle.trees.proofs.First.{first_passes}
use Rattle.trees.proofs.Rulings.{ruling_passes}
use Rattle.roots.proofs.Parents.{roots_refused, roots_left}
use Rattle.roots.proofs.Ways.{entries}
use Rattle.trees.proofs.Answers.{refused_on}
use Rattle.reaches.proofs.judge_roots.Goals as goal

pub returns-then-in_order : goal.returns-then-in_order
returns-then-in_order c = let s = c in sym (ruling_passes _ fine (first_passes (c.in_order.ensures.0 (true_T c.if-in_order.true)) s.requires.0 s.requires.1 _))

pub returns-in_err-judge_parents : goal.returns-in_err-judge_parents
returns-in_err-judge_parents c = refused_on _ c.from_residual.ensures.1 (sym (roots_refused _ _ _ _ _ (sym c.in_err-judge_parents.ensures)))

pub judge_reaching-requires : goal.judge_reaching-requires
judge_reaching-requires c = entries _ _ c.requires.1 (sym c.in_ok-judge_parents.ensures)

pub returns : goal.returns
returns c = c.judge_reaching.ensures ∙ sym (roots_left _ _ (sym c.in_ok-judge_parents.ensures))
