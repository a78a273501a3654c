-- `printing::lines_size`: the size so far is that of the lines passed. Assumes nothing.
use native.Mathlib.Omega.{arith}
use mathlib.Core.Path.{sym, ap}
use lib.ListN.{length}
use Rattle.histories.specs.Histories.{told}
use Rattle.printing.proofs.Lines.{lines_none, size_more}
use Rattle.printing.proofs.lines_size.Goals as goal

pub loop-i-init : goal.loop-i-init
loop-i-init c = (omega arith, λ labels. sym (ap length (lines_none (told c.args.places.now labels))))

pub loop-i-preserved : goal.loop-i-preserved
loop-i-preserved c = (
  omega arith,
  λ labels. rw (c.digit_count.ensures.exact, c.digit_count-in-loop-i.ensures.exact) (size_more (told c.args.places.now labels) _ _ (c.loop-i.invariant.1 labels)),
)
