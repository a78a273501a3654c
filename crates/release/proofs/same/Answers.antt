-- `same` meets its contract. Assumes nothing.
use Rattle.words.proofs.Tables.{length_words_in}
use Rattle.release.proofs.Comparing.{starts_entries, starts_all}
use Rattle.release.proofs.same.Goals as goal

pub loop-k-preserved : goal.loop-k-preserved
loop-k-preserved g c =
    starts_entries g.met.T.Entry.laws c.args.image.now c.args.i _ c.loop-k.k _ c.loop-k.invariant (rw c.WORDS.ensures at c.in-Some.ensures.1)

pub returns : goal.returns
returns g c = λ z. starts_all _ _ c.loop-k.k c.loop-k.invariant c.loop-k-test.false (g.met.T.Entry.laws.many _ _ (length_words_in c.args.image.now c.args.i _ c.requires))
