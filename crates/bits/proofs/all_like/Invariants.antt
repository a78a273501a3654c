-- `bits::all_like`: the nodes passed have as many children as their taxa want. Assumes nothing.
use Prim.Native.Nat.{ℕ, ◌<◌}
use mathlib.Core.Path.{◌≡◌}
use Rattle.trees.specs.Tables.{taxon}
use Rattle.shapes.specs.Counts.{wanted_count}
use Rattle.marks.specs.Bits.{two_at_lem}
use Rattle.bits.proofs.all_like.Given as goal

abbrev pub invariant-loop-i : goal.invariant-loop-i
invariant-loop-i l = (k : ℕ) → k < l.i → two_at_lem l.counts k ≡ wanted_count (taxon l.taxa k)
