-- `equal` meets its contract. The loop's invariant: nothing wrong was noted only if the first k entries are the same. Assumes nothing.
use Rattle.blocks.specs.Halves.{words_of}
use Rattle.release.proofs.Comparing.{Compared}
use Rattle.release.proofs.equal.Given as goal

abbrev pub invariant-loop-k : goal.invariant-loop-k
invariant-loop-k g l = Compared l.table (g.T.Entry.entries (words_of l.bytes)) l.wrong l.k
