-- `taxa::species_of`: no node passed carries the taxon. Assumes nothing.
use Prim.Native.Nat.{ℕ, ◌<◌}
use mathlib.Core.Bool.{not}
use lib.ListN.{get_or}
use lib.Dec.{T, eqb}
use Rattle.taxa.proofs.species_of.Given as goal

abbrev pub invariant-loop-i : goal.invariant-loop-i
invariant-loop-i l = ((k : ℕ) → k < l.i → T (not (eqb (get_or l.species_taxa k 0) l.taxon)))
