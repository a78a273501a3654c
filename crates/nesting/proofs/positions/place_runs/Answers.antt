-- `nesting::positions::place_runs`: the nodes passed have where their run starts. Assumes nothing.
use native.Mathlib.Omega.{arith}
use Rattle.nesting.proofs.Runs.{settling_turn, settling_fits}
use borrow.Author.Rules.{rules}
use Rattle.nesting.proofs.positions.place_runs.Goals as goal

pub overflow_add-starts : goal.overflow_add-starts
overflow_add-starts c = omega (arith, settling_fits c.requires.0.1 c.requires.2 c.requires.1.2 (search rules) c.loop-i.invariant.1 (search rules) (search rules))

pub loop-i-preserved : goal.loop-i-preserved
loop-i-preserved c = (search rules, settling_turn c.requires.0.1 c.requires.2 c.loop-i.i (search rules) (search rules) c.requires.1.2.off_room c.loop-i.invariant.1)
