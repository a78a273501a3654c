-- `reaches::mark_way`: the nodes marked so far reach the root, and so does the next. Assumes nothing.
use Prim.Native.Nat.{◌<◌}
use mathlib.Core.Path.{◌≡◌}
use lib.ListN.{length}
use Rattle.roots.specs.Ways.{Reaching}
use Rattle.reaches.specs.Knowing.{Knowing}
use Rattle.reaches.proofs.mark_way.Given as goal

abbrev pub invariant-loop : goal.invariant-loop
invariant-loop l = (l.n ≡ length l.parents) × (l.x < l.n) × Reaching l.parents l.x × Knowing l.parents l.marks
