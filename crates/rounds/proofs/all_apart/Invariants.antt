-- `rounds::all_apart`: no taxon of a leaf in the rounds passed stands at a later node too. Assumes nothing.
use Prim.Native.Nat.{◌-◌, ◌≤◌}
use mathlib.Core.Path.{◌≡◌}
use lib.ListN.{length}
use Rattle.rounds.specs.Rounds.{Unlike}
use Rattle.rounds.proofs.all_apart.Given as goal

abbrev pub invariant-loop-from : goal.invariant-loop-from
invariant-loop-from l =
    (l.n ≡ length l.species_taxa) × (l.from ≤ l.n) × Unlike l.species_taxa l.from

abbrev pub decreases-loop-from : goal.decreases-loop-from
decreases-loop-from l = l.n - l.from
