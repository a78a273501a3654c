-- `trees::judge_each`. Assumes nothing.
use mathlib.Core.Path.{sym, ap, ◌∙◌}
use borrow.Author.Count.{below_more}
use Rattle.trees.specs.Rulings.{refused_by}
use Rattle.trees.proofs.Bools.{true_T}
use Rattle.trees.proofs.Rulings.{one_refused, one_passed}
use borrow.Author.Rules.{rules}
use Rattle.trees.proofs.judge_each.Goals as goal

pub returns-then-not-test : goal.returns-then-not-test
returns-then-not-test g c = λ ok says.
    ap refused_by c.refuse.ensures
    ∙ sym (one_refused _ _ _ ok _ c.loop-i-test.true (sym (says _ c.loop-i-test.true _ c.test.ensures) ∙ c.if-not-test.true) (c.loop-i.invariant ok says))

pub loop-i-preserved : goal.loop-i-preserved
loop-i-preserved g c = λ ok says.
    below_more _ _ (c.loop-i.invariant ok says) (true_T (sym (says _ c.loop-i-test.true _ c.test.ensures) ∙ c.if-not-test.false))

pub returns : goal.returns
returns g c = λ ok says. sym (one_passed _ _ _ ok (λ j h. c.loop-i.invariant ok says j (search rules)))
