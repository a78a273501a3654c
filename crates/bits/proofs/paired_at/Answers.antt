-- `bits::paired_at`. Assumes nothing.
use Rattle.trees.specs.Rules.{paired}
use Rattle.shapes.specs.Counts.{is_paired}
use Rattle.bits.proofs.paired_at.Goals as goal

pub returns : goal.returns
unfolding paired is_paired
returns c = rw c.children_of.ensures at c.paired.ensures
