-- `bits::children_of`: so many of the nodes passed are children. Assumes nothing.
use mathlib.Core.Path.{◌≡◌, refl}
use lib.ListN.{length}
use Rattle.trees.specs.Lists.{range, keep_if}
use Rattle.trees.specs.Trees.{nodes, kids}
use Rattle.bits.proofs.Childing.{scan_more}
use borrow.Author.Rules.{rules}
use Rattle.bits.proofs.children_of.Goals as goal

pub loop-parent-init : goal.loop-parent-init
unfolding range keep_if
loop-parent-init c = (search rules, refl)

pub loop-parent-preserved : goal.loop-parent-preserved
loop-parent-preserved c = scan_more _ _ _ _ _ (search rules) (rw c.from.ensures at c.from-count.ensures) c.loop-parent.invariant

pub returns : goal.returns
unfolding kids nodes
returns c = let e : c.loop-parent.parent-index ≡ length c.args.parents.now = search rules in rw e at c.loop-parent.invariant.1
