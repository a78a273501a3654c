-- `read` meets its contract. The loop's invariant: the first k entries are read. The measure is what is left of `out`. Assumes nothing.
use Rattle.std.proofs.Common.{◌*◌, ◌-◌, length}
use Rattle.blocks.specs.Blocks.{run, content}
use Rattle.words.proofs.Tables.{Filling}
use Rattle.words.proofs.read.read.Given as goal

abbrev pub invariant-loop-k : goal.invariant-loop-k
invariant-loop-k g l = Filling l.initial.out (g.T.Entry.entries (run l.i (g.T.Entry.WORDS * length l.initial.out) (content l.image))) l.out l.k

abbrev pub decreases-loop-k : goal.decreases-loop-k
decreases-loop-k g l = length l.initial.out - l.k
