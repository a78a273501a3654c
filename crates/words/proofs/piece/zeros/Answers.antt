-- `zeros` meets its contract. Assumes nothing.
use Rattle.words.proofs.Pieces.{tested_more, tested_end}
use Rattle.words.proofs.piece.zeros.Goals as goal

pub loop-b-preserved : goal.loop-b-preserved
loop-b-preserved c = tested_more _ _ c.loop-b.b-index c.loop-b-test.true c.loop-b.invariant

pub returns : goal.returns
returns c = tested_end _ _ c.loop-b.b-index c.loop-b-test.false c.loop-b.invariant
