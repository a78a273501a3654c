-- `fills::settling::rounds`: entries that are no gene node's stay. Assumes nothing.
use Prim.Native.Nat.{◌-◌, ◌≤◌}
use lib.ListN.{length}
use Rattle.fills.specs.Filling.{Kept}
use Rattle.fills.proofs.settling.rounds.Given as goal

abbrev pub invariant-loop-from : goal.invariant-loop-from
invariant-loop-from l = (l.from ≤ length l.species_taxa) × Kept (length l.gene_taxa) l.initial.places l.places

abbrev pub decreases-loop-from : goal.decreases-loop-from
decreases-loop-from l = length l.species_taxa - l.from
