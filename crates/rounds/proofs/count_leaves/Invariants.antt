-- `rounds::count_leaves`: so many of the nodes passed are leaves. Assumes nothing.
use Prim.Native.Nat.{◌≤◌}
use mathlib.Core.Path.{◌≡◌}
use Rattle.rounds.specs.Rounds.{leaves_to}
use Rattle.rounds.proofs.count_leaves.Given as goal

abbrev pub invariant-loop-taxon : goal.invariant-loop-taxon
invariant-loop-taxon l = (l.count ≤ l.taxon-index) × (l.count ≡ leaves_to l.gene_taxa l.taxon-index)
