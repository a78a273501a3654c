-- `fills::fill`: the leaves passed, and all that follows from them, are done. Assumes nothing.
use Prim.Native.Nat.{◌-◌, ◌≤◌}
use mathlib.Core.Path.{◌≡◌}
use lib.ListN.{length}
use Rattle.trees.specs.Tables.{pair_of}
use Rattle.fills.proofs.Turns.{Filling-to}
use Rattle.fills.proofs.fill.Given as goal

abbrev pub invariant-loop-k : goal.invariant-loop-k
invariant-loop-k l = Filling-to (pair_of l.trees) l.k l.initial.places l.places l.initial.labels l.labels
