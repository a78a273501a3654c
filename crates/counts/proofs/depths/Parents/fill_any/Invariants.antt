-- `counts::depths::Parents::fill_any`: the depths of the nodes passed are known. Assumes nothing.
use mathlib.Core.Path.{◌≡◌}
use lib.ListN.{length}
use Rattle.counts.proofs.Deepening.{Knowing}
use Rattle.counts.proofs.depths.Parents.fill_any.Given as goal

abbrev pub invariant-loop-i : goal.invariant-loop-i
invariant-loop-i l = (l.i-end ≡ length l.self) × Knowing l.self l.i l.depths
