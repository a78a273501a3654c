-- `hints::enter`: a node is passed for each leaf entered, and at the first of them none is entered yet. Assumes nothing.
use Prim.Native.Nat.{◌+◌, ◌≤◌}
use mathlib.Core.Path.{◌≡◌}
use lib.ListN.{length}
use Rattle.hints.proofs.enter.Given as goal

abbrev pub invariant-loop-i : goal.invariant-loop-i
invariant-loop-i l = (l.n ≡ length l.species_taxa) × (256 + l.from ≤ l.left + l.i)
