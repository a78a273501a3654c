-- `climbs::steps_up`: the steps made and the depth that is left are the depth of the lower end. Assumes nothing.
use native.Mathlib.Omega.{arith}
use Rattle.climbs.proofs.Climbing.{climb_few, climbing_turn, climbing_nearer}
use Rattle.climbs.proofs.steps_up.Goals as goal

pub overflow_add-passed : goal.overflow_add-passed
overflow_add-passed c = omega (arith, climb_few c.requires c.loop-at.invariant)

pub loop-at-smaller : goal.loop-at-smaller
loop-at-smaller c = climbing_nearer c.requires c.loop-at.invariant c.loop-at-test.true

pub loop-at-preserved : goal.loop-at-preserved
loop-at-preserved c = climbing_turn c.requires c.loop-at.invariant c.loop-at-test.true
