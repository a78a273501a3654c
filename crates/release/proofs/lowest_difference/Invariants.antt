-- `lowest_difference` meets its contract. The loop's invariant: `a` and `b` are where the entries v of the two tables stand, and all entries before are alike.
-- Assumes nothing.
use Prim.Native.Nat.{◌+◌, ◌*◌}
use mathlib.Core.Path.{◌≡◌}
use lib.ListN.{length}
use Rattle.blocks.specs.Blocks.{content}
use Rattle.words.specs.Words.{offset, agree}
use Rattle.blocks.proofs.Searches.{Passed}
use Rattle.release.proofs.lowest_difference.Given as goal

abbrev pub invariant-loop-v : goal.invariant-loop-v
invariant-loop-v l = (l.a ≡ offset (l.i + l.v)) × (l.b ≡ offset (l.i + length l.species.parents.now + 2 * l.v)) × Passed (agree (content l.image) l.i l.species.parents.now l.species.taxa.now) (length l.species.parents.now) l.v
