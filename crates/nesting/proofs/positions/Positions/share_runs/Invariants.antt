-- `nesting::positions::Positions::share_runs`: the nodes from i on have their part of their parent's run. Assumes nothing.
use Prim.Native.Nat.{◌≤◌}
use Rattle.nesting.specs.Runs.{Shared}
use Rattle.nesting.proofs.positions.Positions.share_runs.Given as goal

abbrev pub invariant-loop-i : goal.invariant-loop-i
invariant-loop-i g l = (1 ≤ l.i) × Shared l.parents l.i l.self.starts l.self.runs l.self.turns
