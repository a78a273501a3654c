-- `rounds::all_held`: no more are counted than gene leaves have a species in the rounds passed. Assumes nothing.
use Prim.Native.Nat.{◌-◌, ◌≤◌}
use mathlib.Core.Path.{◌≡◌}
use lib.ListN.{length}
use Rattle.rounds.specs.Rounds.{leaves_to, held_to}
use Rattle.rounds.proofs.all_held.Given as goal

abbrev pub invariant-loop-from : goal.invariant-loop-from
invariant-loop-from l =
    (l.n ≡ length l.species_taxa) × (l.from ≤ l.n) × (l.leaves ≡ leaves_to l.gene_taxa (length l.gene_taxa))
    × (l.count ≤ held_to l.species_taxa l.gene_taxa l.from (length l.gene_taxa))

abbrev pub decreases-loop-from : goal.decreases-loop-from
decreases-loop-from l = l.n - l.from
