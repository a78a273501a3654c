-- `meets::Parents::together`: the two stay equally deep, and where they meet now is where they met at first. Assumes nothing.
use Prim.Native.Nat.{ℕ}
use Rattle.trees.specs.Trees.{Meet}
use Rattle.meets.specs.Climbing.{deep}
use Rattle.meets.proofs.Joins.{Level}
use Rattle.meets.proofs.Parents.together.Given as goal

abbrev pub invariant-loop-x : goal.invariant-loop-x
invariant-loop-x l = Level l.parents l.x l.y × ((m : ℕ) → Meet l.parents l.x l.y m → Meet l.parents l.initial.x l.initial.y m)

abbrev pub decreases-loop-x : goal.decreases-loop-x
decreases-loop-x l = deep l.parents l.x
