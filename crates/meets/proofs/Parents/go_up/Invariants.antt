-- `meets::Parents::go_up`: the node reached lies the counted steps above the first. Assumes nothing.
use Prim.Native.Nat.{◌<◌}
use mathlib.Core.Path.{◌≡◌}
use lib.ListN.{length}
use Rattle.meets.proofs.Joins.{Risen}
use Rattle.meets.proofs.Parents.go_up.Given as goal

abbrev pub invariant-loop-steps : goal.invariant-loop-steps
invariant-loop-steps l = (l.n ≡ length l.parents) × (l.x < l.n) × Risen l.parents l.initial.x l.x l.steps
