-- `same` meets its contract. The loop's invariant: the first k entries are the same. The measure is what is left of the table. Assumes nothing.
use Rattle.std.proofs.Common.{◌*◌, ◌-◌, length}
use Rattle.blocks.specs.Blocks.{run, content}
use Rattle.release.specs.Passing.{Starts}
use Rattle.release.proofs.same.Given as goal

abbrev pub invariant-loop-k : goal.invariant-loop-k
invariant-loop-k g l = Starts (g.T.Entry.entries (run l.i (g.T.Entry.WORDS * length l.table) (content l.image))) l.table l.k

abbrev pub decreases-loop-k : goal.decreases-loop-k
decreases-loop-k g l = length l.table - l.k
