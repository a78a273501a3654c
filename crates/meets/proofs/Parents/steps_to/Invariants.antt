-- `meets::Parents::steps_to`: the node reached lies the counted steps above the first. Assumes nothing.
use Prim.Native.Nat.{◌<◌}
use mathlib.Core.Path.{◌≡◌}
use lib.ListN.{length}
use Rattle.meets.proofs.Joins.{Risen}
use Rattle.meets.proofs.Parents.steps_to.Given as goal

abbrev pub invariant-loop-k : goal.invariant-loop-k
invariant-loop-k l = (l.n ≡ length l.parents) × (l.x < l.n) × Risen l.parents l.initial.x l.x l.k
