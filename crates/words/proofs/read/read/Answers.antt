-- `read` meets its contract. Assumes nothing.
use Rattle.std.proofs.Common.{length}
use Rattle.words.proofs.Tables.{filling_start, length_words_in}
use Rattle.words.proofs.Fronts.{filling_entries}
use Rattle.words.proofs.read.read.Goals as goal

pub loop-k-init : goal.loop-k-init
loop-k-init g c = filling_start _ _ (g.met.T.Entry.laws.many (length c.args.out.now) _ (length_words_in c.args.image.now c.args.i _ c.requires))

pub loop-k-preserved : goal.loop-k-preserved
loop-k-preserved g c =
    filling_entries g.met.T.Entry.laws c.args.image.now c.args.i _ c.loop-k.out c.some-k.new.out c.loop-k.k _ c.loop-k.invariant (rw c.WORDS.ensures at c.some-k.ensures)
