-- `reaches::judge_reaching`: the nodes passed reach the root. Assumes nothing.
use mathlib.Core.Path.{sym, ap, ◌∙◌}
use borrow.Author.Count.{below_none, below_more}
use Rattle.trees.specs.Rulings.{refused_by}
use Rattle.trees.proofs.Bools.{true_T}
use Rattle.trees.proofs.Rulings.{one_refused, one_passed}
use Rattle.roots.proofs.Ways.{reaching_yes, yes_reaching}
use Rattle.reaches.proofs.Marking.{knowing_start}
use borrow.Author.Rules.{rules}
use Rattle.reaches.proofs.judge_reaching.Goals as goal
use Rattle.reaches.proofs.judge_reaching.Goals.{then-two_at-eq0+else-not-reaches, else-two_at-eq0}

pub loop-i-init : goal.loop-i-init
loop-i-init c = (search rules, knowing_start c.requires _ c.blank.ensures, below_none _)

pub mark_way-requires : goal.mark_way-requires
mark_way-requires c = (search rules, search rules, search rules, yes_reaching c.requires (true_T (sym c.reaches.ensures ∙ c.if-not-reaches.false)))

pub loop-i-preserved : goal.loop-i-preserved
loop-i-preserved c =
    elim c.if-two_at-eq0.branch [
      | then-two_at-eq0+else-not-reaches w ↦
          (search rules, search rules, below_more _ _ c.loop-i.invariant.2 (true_T (sym w.reaches.ensures ∙ w.if-not-reaches.false)))
      | else-two_at-eq0 w ↦
          (search rules, search rules, below_more _ _ c.loop-i.invariant.2 (true_T (reaching_yes c.requires (c.loop-i.invariant.1.known _ (search rules) (λ e. w.if-two_at-eq0.false (c.two_at.ensures ∙ e))))))
    ]

pub returns-then-not-reaches : goal.returns-then-not-reaches
returns-then-not-reaches c = ap refused_by c.refuse.ensures ∙ sym (one_refused 38 _ _ _ _ (search rules) (sym c.reaches.ensures ∙ c.if-not-reaches.true) c.loop-i.invariant.2)

pub returns : goal.returns
returns c = sym (one_passed 38 _ _ _ (λ k h. c.loop-i.invariant.2 k (search rules)))
