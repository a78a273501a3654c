-- `printing::digit_count`: the digits counted and those of the rest are those of n, but that the rest's first is counted already.
-- Assumes nothing.
use native.Mathlib.Omega.{arith}
use Rattle.printing.proofs.Decimal.{decimal_fewer, decimal_one, decimal_64}
use Rattle.printing.proofs.digit_count.Goals as goal

pub overflow_add-count : goal.overflow_add-count
overflow_add-count c = omega (arith, decimal_64 _ c.ranges.n.fits)

pub loop-rest-preserved : goal.loop-rest-preserved
loop-rest-preserved c = omega (arith, decimal_fewer c.loop-rest.rest c.loop-rest-test.true)

pub returns : goal.returns
returns c =
    let one = decimal_one c.loop-rest.rest c.loop-rest-test.false in
    record { exact = omega (arith, one); few = omega (arith, one, decimal_64 _ c.ranges.n.fits) }
