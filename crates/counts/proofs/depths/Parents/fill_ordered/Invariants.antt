-- `counts::depths::Parents::fill_ordered`: the depths of the nodes passed stand. Assumes nothing.
use mathlib.Core.Path.{◌≡◌}
use lib.ListN.{length}
use Rattle.counts.proofs.Deepening.{Deepening}
use Rattle.counts.proofs.depths.Parents.fill_ordered.Given as goal

abbrev pub invariant-loop-i : goal.invariant-loop-i
invariant-loop-i l = (l.i-end ≡ length l.parents) × Deepening l.parents l.i l.depths
