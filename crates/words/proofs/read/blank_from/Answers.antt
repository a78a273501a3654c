-- `blank_from` meets its contract. The loop's invariant: the words from i to k are zero, so those from k on decide.
-- The measure is what is left of the words. Assumes nothing.
use native.Mathlib.Omega.{arith}
use Rattle.blocks.specs.Blocks.{content}
use Rattle.words.proofs.Tables.{length_content}
use Rattle.words.proofs.Fronts.{blank_more, blank_fails, blank_end}
use Rattle.words.proofs.read.blank_from.Goals as goal

pub loop-k-preserved : goal.loop-k-preserved
loop-k-preserved c = (
  omega (arith, c.together-m.ensures.low, c.loop-k-test.true),
  blank_more (content c.args.image.now) c.loop-k.k _ c.loop-k.invariant.1 c.together-m.result _ _ c.bytes_of.ensures.0 c.bytes_of.ensures.1 c.zeros.ensures c.if-zeros.true,
)

pub returns-else-zeros : goal.returns-else-zeros
returns-else-zeros c =
    blank_fails (content c.args.image.now) c.loop-k.k _ c.loop-k.invariant.1 c.together-m.result _ _ c.bytes_of.ensures.0 c.bytes_of.ensures.1 c.zeros.ensures c.if-zeros.false

pub returns : goal.returns
returns c = blank_end (content c.args.image.now) c.loop-k.k _ c.loop-k.invariant.1 (omega (arith, length_content c.args.image.now, c.loop-k-test.false))
