-- `shapes::all_shaped`: nothing is noted exactly if the nodes passed have as many children as their taxa want. Assumes nothing.
use Prim.Native.Nat.{◌≤◌}
use mathlib.Core.Path.{◌≡◌}
use lib.ListN.{get_or}
use Rattle.shapes.specs.Counts.{wanted_count}
use Rattle.passes.proofs.Noting.{Noted}
use Rattle.shapes.proofs.all_shaped.Given as goal

abbrev pub invariant-loop-i : goal.invariant-loop-i
invariant-loop-i l = (l.wrong ≤ l.i) × Noted (λ k. get_or l.counts k 0 ≡ wanted_count (get_or l.taxa k 0)) l.i l.wrong
