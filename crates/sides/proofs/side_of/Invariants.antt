-- `sides::side_of`: the side is the first node of what is left of the line whose parent is `above`. Assumes nothing.
use Prim.Native.Nat.{◌≤◌, ◌<◌}
use mathlib.Core.Path.{◌≡◌}
use lib.ListN.{length}
use Rattle.trees.specs.Trees.{depth}
use Rattle.histories.specs.Histories.{every_node}
use Rattle.sides.specs.Tests.{side_of}
use Rattle.sides.proofs.side_of.Given as goal

abbrev pub invariant-loop-n : goal.invariant-loop-n
invariant-loop-n l = (l.n ≡ length l.species_parents) × (l.n ≤ 2047) × (l.s < l.n) × (side_of l.species_parents l.a l.initial.s ≡ side_of l.species_parents l.a l.s)

abbrev pub decreases-loop-n : goal.decreases-loop-n
decreases-loop-n l = depth l.species_parents every_node l.s
