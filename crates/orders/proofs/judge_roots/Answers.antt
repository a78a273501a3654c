-- `orders::judge_roots`: where parents come first rules 2 and 38 hold; else rule 2, and then 38. Assumes nothing.
use mathlib.Core.Path.{sym, ap, ◌∙◌}
use Rattle.trees.specs.Rulings.{refused_by, fine}
use Rattle.trees.proofs.Bools.{true_T}
use Rattle.trees.proofs.First.{first_passes}
use Rattle.trees.proofs.Rulings.{ruling_passes}
use Rattle.roots.proofs.Parents.{roots_refused, roots_lost, roots_passed}
use Rattle.roots.proofs.Ways.{entries}
use borrow.Author.Rules.{rules}
use Rattle.trees.proofs.Answers.{refused_on}
use Rattle.orders.proofs.judge_roots.Goals as goal

pub returns-then-in_order : goal.returns-then-in_order
returns-then-in_order c = let s = c in sym (ruling_passes _ fine (first_passes (c.in_order.ensures.0 (true_T c.if-in_order.true)) s.requires.0 s.requires.1 _))

pub returns-in_err-judge_parents : goal.returns-in_err-judge_parents
returns-in_err-judge_parents c = refused_on _ c.from_residual.ensures.1 (sym (roots_refused _ _ _ _ _ (sym c.in_err-judge_parents.ensures)))

pub first_lost-requires : goal.first_lost-requires
first_lost-requires c = let s = c in (s.requires.0, entries _ _ s.requires.1 (sym c.in_ok-judge_parents.ensures))

pub returns-in-Some : goal.returns-in-Some
returns-in-Some c = ap refused_by c.refuse.ensures ∙ sym (roots_lost _ _ (sym c.in_ok-judge_parents.ensures) _ c.in-Some.ensures.1 c.in-Some.ensures.0)

pub returns : goal.returns
returns c = sym (roots_passed _ _ (sym c.in_ok-judge_parents.ensures) _ c.in_default.ensures (search rules))
