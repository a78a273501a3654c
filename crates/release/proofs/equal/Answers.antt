-- `equal` meets its contract. Assumes nothing.
use Rattle.std.proofs.Common.{◌*◌, length}
use Rattle.blocks.proofs.Halves.{length_joined}
use Rattle.words.proofs.Entries.{entry_piece}
use Rattle.release.proofs.Comparing.{compared_none, compared_more, compared_end}
use Rattle.release.proofs.equal.Goals as goal

pub loop-k-init : goal.loop-k-init
loop-k-init g c =
    compared_none _ _ (g.met.T.Entry.laws.many (length c.args.table.now) _ (length_joined 256 (g.T.Entry.WORDS * length c.args.table.now) c.args.bytes.now c.requires))

pub loop-k-preserved : goal.loop-k-preserved
loop-k-preserved g c =
    compared_more _ _ c.loop-k.wrong _ c.loop-k.k _ c.loop-k.invariant c.loop-k-test.true c.index-table-k.is
    (λ z. entry_piece g.met.T.Entry.laws c.args.bytes.now c.loop-k.k _ (c.differ_at-wrong.ensures z))

pub returns : goal.returns
returns g c = λ z. compared_end _ _ c.loop-k.wrong c.loop-k.k c.loop-k.invariant c.loop-k-test.false z
