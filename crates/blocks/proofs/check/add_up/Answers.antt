-- `add_up` meets its contract. Assumes nothing.
use Rattle.std.proofs.Common.{sym, ap, ◌∙◌, arith, length-take-le}
use Rattle.blocks.proofs.Sums.{adding_start, adding_byte, adding_end}
use Rattle.blocks.proofs.check.add_up.Goals as goal

pub slice_bounds-chunks_exact-end : goal.slice_bounds-chunks_exact-end
slice_bounds-chunks_exact-end c = sym (length-take-le _ c.args.b.now (omega arith))

pub loop-four-init : goal.loop-four-init
loop-four-init c =
    let items = c.chunks_exact-four-items.ensures in
    let same = c.into_iter-four-iterator.ensures.into_iter_gives in
    adding_start _ _ _ c.requires (ap (λ t. t.rest.now) same ∙ items.rest) (ap (λ t. t.size) same ∙ items.size)

pub loop-byte-preserved : goal.loop-byte-preserved
loop-byte-preserved c = adding_byte _ _ _ _ c.loop-byte.byte-index _ _ c.loop-byte-test.true c.grow-s.ensures c.loop-byte.invariant

pub returns : goal.returns
returns c = adding_end _ _ _ _ c.in-None.ensures.steps.1.0 c.loop-four.invariant
