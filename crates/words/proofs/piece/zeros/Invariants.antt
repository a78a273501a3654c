-- `zeros` meets its contract. The loop's invariant: what was noted and the bytes that are left decide. Assumes nothing.
use Rattle.words.proofs.Pieces.{Tested}
use Rattle.words.proofs.piece.zeros.Given as goal

abbrev pub invariant-loop-b : goal.invariant-loop-b
invariant-loop-b l = Tested l.bytes l.blank l.b-index
