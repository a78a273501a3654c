-- `nesting::all_inside`: the gene nodes passed lie inside their parents' places' runs, and their codes are added up. Assumes nothing.
use Rattle.nesting.proofs.Codes.{coding_start, coding_turn, coding_skip}
use borrow.Author.Rules.{rules}
use Rattle.nesting.proofs.all_inside.Goals as goal
use Rattle.nesting.proofs.all_inside.Goals.{then-u-q+else-at-a, else-u-q}

pub loop-c-init : goal.loop-c-init
loop-c-init g c = (search rules, coding_start c.requires)

pub loop-c-preserved : goal.loop-c-preserved
loop-c-preserved g c =
    let D = c.loop-c.invariant.1 in
    elim c.if-u-q.branch [
      | then-u-q+else-at-a w ↦ (search rules, rw w.sides-is (coding_turn c.loop-c.c D (search rules) w.if-u-q.true _ _ w.ahead_of-d.ensures w.if-at-a.false w.side_code.ensures.0 w.side_code.ensures.1))
      | else-u-q w ↦ (search rules, rw w.sides-is (coding_skip c.loop-c.c D (search rules) w.if-u-q.false))
    ]
