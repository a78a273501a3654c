-- `rounds::count_held`: so many more of the gene nodes passed have a species below the end of the round than below its begin. Assumes nothing.
use Prim.Native.Nat.{◌+◌, ◌≤◌}
use Rattle.rounds.specs.Rounds.{held_to}
use Rattle.rounds.proofs.count_held.Given as goal

abbrev pub invariant-loop-i : goal.invariant-loop-i
invariant-loop-i l =
    (l.count ≤ l.i) × (l.count + held_to l.species_taxa l.gene_taxa l.from l.i ≤ held_to l.species_taxa l.gene_taxa l.to l.i)
