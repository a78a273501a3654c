-- `showing::decimal`: the digits are put into a buffer, with a space behind them, and taken from it. Assumes nothing.
use native.Mathlib.Omega.{arith}
use mathlib.Core.Path.{sym}
use lib.Seq.{length-take-le}
use Rattle.showing.proofs.Holding.{numeral_room, numeral_place, numeral_taken}
use Rattle.showing.proofs.decimal.Goals as goal

pub put_number-k-requires : goal.put_number-k-requires
put_number-k-requires c = numeral_room _ c.ranges.n.fits

pub overflow_sub-k : goal.overflow_sub-k
overflow_sub-k c = let p = numeral_place c.ranges.n.fits c.put_number-k.ensures in omega (arith, p.0)

pub slice_bounds-digits-end : goal.slice_bounds-digits-end
slice_bounds-digits-end c = let p = numeral_place c.ranges.n.fits c.put_number-k.ensures in omega (arith, p.1)

pub slice_bounds-text-end : goal.slice_bounds-text-end
slice_bounds-text-end c = let p = numeral_place c.ranges.n.fits c.put_number-k.ensures in sym (length-take-le _ _ (omega (arith, p.1)))

pub returns : goal.returns
returns c =
    rw (numeral_taken c.ranges.n.fits c.put_number-k.ensures) at c.text.ensures
