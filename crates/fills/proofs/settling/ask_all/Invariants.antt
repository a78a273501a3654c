-- `fills::settling::ask_all`: entries that are no gene node's stay. Assumes nothing.
use Prim.Native.Nat.{◌-◌, ◌≤◌}
use mathlib.Core.Path.{◌≡◌}
use lib.ListN.{length}
use Rattle.fills.specs.Filling.{Kept}
use Rattle.fills.proofs.settling.ask_all.Given as goal

abbrev pub invariant-loop-g : goal.invariant-loop-g
invariant-loop-g l = Kept (length l.gene_taxa) l.initial.places l.places
