-- `bits::children_of`: so many of the nodes passed are children. Assumes nothing.
use Prim.Native.Nat.{◌≤◌}
use mathlib.Core.Path.{◌≡◌}
use Rattle.shapes.proofs.Counting.{kids_to}
use Rattle.bits.proofs.children_of.Given as goal

abbrev pub invariant-loop-parent : goal.invariant-loop-parent
invariant-loop-parent l = (l.count ≤ l.parent-index) × (l.count ≡ kids_to l.parents l.node l.parent-index)
