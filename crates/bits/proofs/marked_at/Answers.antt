-- `bits::marked_at`. Assumes nothing.
use Rattle.trees.specs.Trees.{is_leaf}
use Rattle.trees.specs.Rules.{marked}
use Rattle.shapes.specs.Counts.{is_marked}
use Rattle.bits.proofs.marked_at.Goals as goal

pub returns : goal.returns
unfolding marked is_leaf is_marked
returns c = rw c.children_of.ensures at c.marked.ensures
