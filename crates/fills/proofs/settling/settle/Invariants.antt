-- `fills::settling::settle`: the leaves passed are at home. Assumes nothing.
use Prim.Native.Nat.{◌-◌, ◌≤◌}
use mathlib.Core.Path.{◌≡◌}
use lib.ListN.{length}
use Rattle.fills.specs.Settling.{Settled}
use Rattle.fills.proofs.settling.settle.Given as goal

abbrev pub invariant-loop-g : goal.invariant-loop-g
invariant-loop-g l = Settled l.species_taxa l.gene_taxa l.g l.initial.places l.places
