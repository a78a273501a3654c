-- `counts::depths::Parents::note_way`: on the way up all that is noted is right. Assumes nothing.
use Prim.Native.Nat.{◌≤◌}
use mathlib.Core.Path.{◌≡◌}
use lib.ListN.{length}
use Rattle.counts.proofs.Deepening.{Way}
use Rattle.counts.proofs.depths.Parents.note_way.Given as goal

abbrev pub invariant-loop-depths : goal.invariant-loop-depths
invariant-loop-depths l = (l.n ≡ length l.parents) × (l.n ≤ 2047) × (length l.initial.depths ≡ 2047) × Way l.parents l.initial.x l.initial.depths l.depths l.x l.d

abbrev pub decreases-loop-depths : goal.decreases-loop-depths
decreases-loop-depths l = l.d
