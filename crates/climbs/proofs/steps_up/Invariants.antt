-- `climbs::steps_up`: the steps made and the depth that is left are the depth of the lower end. Assumes nothing.
use Rattle.trees.specs.Trees.{depth}
use Rattle.histories.specs.Histories.{every_node}
use Rattle.climbs.proofs.Climbing.{Climbing}
use Rattle.climbs.proofs.steps_up.Given as goal

abbrev pub invariant-loop-at : goal.invariant-loop-at
invariant-loop-at l = Climbing l.species_parents l.initial.at l.top l.at l.passed

abbrev pub decreases-loop-at : goal.decreases-loop-at
decreases-loop-at l = depth l.species_parents every_node l.at
