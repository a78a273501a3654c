-- `printing::put_lines`: the lines of the nodes passed are put. Assumes nothing.
use Rattle.histories.specs.Histories.{told}
use Rattle.printing.proofs.Lines.{lines_start, lines_room, lines_put}
use Rattle.printing.proofs.put_lines.Goals as goal

pub loop-i-init : goal.loop-i-init
loop-i-init c = lines_start _ _

pub put_node-at-requires : goal.put_node-at-requires
put_node-at-requires c =
    rw c.from.ensures (lines_room (told c.args.places.now c.args.labels.now) _ _ _ _ c.loop-i.invariant _ c.loop-i-test.true c.requires.room)

pub loop-i-preserved : goal.loop-i-preserved
loop-i-preserved c =
    lines_put (told c.args.places.now c.args.labels.now) _ _ _ _ c.loop-i.invariant _ _ (rw c.from.ensures at c.put_node-at.ensures)
