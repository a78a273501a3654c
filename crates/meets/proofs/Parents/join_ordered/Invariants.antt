-- `meets::Parents::join_ordered`: where the two meet now is where they met at first. Assumes nothing.
use Prim.Native.Nat.{ℕ, ◌+◌, ◌<◌}
use lib.ListN.{length}
use Rattle.trees.specs.Trees.{Meet}
use Rattle.meets.proofs.Parents.join_ordered.Given as goal

abbrev pub invariant-loop-x : goal.invariant-loop-x
invariant-loop-x l = (l.x < length l.parents) × (l.y < length l.parents) × ((m : ℕ) → Meet l.parents l.x l.y m → Meet l.parents l.initial.x l.initial.y m)

abbrev pub decreases-loop-x : goal.decreases-loop-x
decreases-loop-x l = l.x + l.y
