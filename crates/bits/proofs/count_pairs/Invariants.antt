-- `bits::count_pairs`: after i nodes the table has the children among them. Assumes nothing.
use Rattle.bits.specs.Children.{Childed}
use Rattle.bits.proofs.count_pairs.Given as goal

abbrev pub invariant-loop-parent : goal.invariant-loop-parent
invariant-loop-parent l = Childed l.parents l.parent-index l.counts
