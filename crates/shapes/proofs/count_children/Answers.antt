-- `shapes::count_children`: after i nodes the table has the children among them. Assumes nothing.
use Rattle.shapes.proofs.Counting.{counting_start, counting_turn, counting_skip, counting_end}
use borrow.Author.Rules.{rules}
use Rattle.shapes.proofs.count_children.Goals as goal
use Rattle.shapes.proofs.count_children.Goals.{then-u-n, else-u-n}

pub loop-parent-init : goal.loop-parent-init
loop-parent-init c = counting_start _ _ c.requires.1

pub loop-parent-preserved : goal.loop-parent-preserved
loop-parent-preserved c =
    let l = c.loop-parent in
    elim c.if-u-n.branch [
      | then-u-n w ↦ rw (w.counts-is, c.from-u.ensures) (counting_turn _ _ (search rules) l.invariant (search rules))
      | else-u-n w ↦ rw w.counts-is (counting_skip _ _ (search rules) l.invariant (search rules))
    ]

pub returns : goal.returns
returns c = counting_end _ _ (search rules) c.loop-parent.invariant
