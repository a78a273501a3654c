-- `nesting::all_split`: nothing is noted exactly if the nodes passed are split. Assumes nothing.
use Prim.Native.Nat.{◌≤◌}
use Rattle.nesting.specs.Codes.{SplitAt}
use Rattle.passes.proofs.Noting.{Noted}
use Rattle.nesting.proofs.all_split.Given as goal

abbrev pub invariant-loop-g : goal.invariant-loop-g
invariant-loop-g l = (l.wrong ≤ l.g) × Noted (SplitAt l.labels l.sides) l.g l.wrong
