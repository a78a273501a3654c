-- `shapes::count_children`: after i nodes the table has the children among them. Assumes nothing.
use Rattle.shapes.proofs.Counting.{Counting}
use Rattle.shapes.proofs.count_children.Given as goal

abbrev pub invariant-loop-parent : goal.invariant-loop-parent
invariant-loop-parent l = Counting l.parents l.parent-index l.counts
