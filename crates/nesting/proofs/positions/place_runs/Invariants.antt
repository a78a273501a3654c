-- `nesting::positions::place_runs`: the nodes passed have where their run starts. Assumes nothing.
use mathlib.Core.Path.{◌≡◌}
use lib.ListN.{length}
use Rattle.nesting.specs.Runs.{Settling}
use Rattle.nesting.proofs.positions.place_runs.Given as goal

abbrev pub invariant-loop-i : goal.invariant-loop-i
invariant-loop-i l = (l.i-end ≡ length l.parents) × Settling l.parents l.i l.initial.starts l.starts
