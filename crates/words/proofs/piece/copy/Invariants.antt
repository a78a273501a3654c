-- `copy` meets its contract. The loop's invariant: the first k entries are read. Assumes nothing.
use Rattle.blocks.specs.Halves.{words_of}
use Rattle.words.proofs.Tables.{Filling}
use Rattle.words.proofs.piece.copy.Given as goal

abbrev pub invariant-loop-k : goal.invariant-loop-k
invariant-loop-k g l = Filling l.initial.out (g.T.Entry.entries (words_of l.bytes)) l.out l.k
