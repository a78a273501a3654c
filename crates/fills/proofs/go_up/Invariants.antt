-- `fills::go_up`: on the way up all that is done is right. Assumes nothing.
use mathlib.Core.Path.{◌≡◌}
use lib.ListN.{length}
use Rattle.trees.specs.Trees.{depth}
use Rattle.trees.specs.Tables.{pair_of}
use Rattle.histories.specs.Histories.{every_node}
use Rattle.fills.proofs.Turns.{Going}
use Rattle.fills.proofs.go_up.Given as goal

abbrev pub invariant-loop-gene_parents : goal.invariant-loop-gene_parents
invariant-loop-gene_parents l = Going (pair_of l.trees) l.initial.v l.v l.initial.places l.places l.initial.labels l.labels

abbrev pub decreases-loop-gene_parents : goal.decreases-loop-gene_parents
decreases-loop-gene_parents l = depth l.trees.genes.parents.now every_node l.v
