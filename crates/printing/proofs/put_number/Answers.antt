-- `printing::put_number`: the digits behind those of the rest are put. Assumes nothing.
use native.Mathlib.Omega.{arith}
use lib.ListN.{length-set}
use Rattle.printing.proofs.Putting.{ended_length, dig_none, dig_length, dig_room, dig_more, dig_end}
use Rattle.printing.proofs.put_number.Goals as goal

pub overflow_add-stop : goal.overflow_add-stop
overflow_add-stop c = omega (arith, c.digit_count.ensures.exact, ended_length c.args.n c.args.end, c.requires)

pub loop-rest-init : goal.loop-rest-init
loop-rest-init c = rw c.digit_count.ensures.exact (dig_none _ _ _)

pub overflow_sub-i : goal.overflow_sub-i
overflow_sub-i c = (dig_room _ _ _ _ _ _ c.loop-rest.invariant _ c.requires).0

pub bounds-out-i : goal.bounds-out-i
bounds-out-i c = omega (arith, (dig_room _ _ _ _ _ _ c.loop-rest.invariant _ c.requires).1)

pub loop-rest-preserved : goal.loop-rest-preserved
loop-rest-preserved c = dig_more _ _ _ _ _ _ c.loop-rest.invariant c.loop-rest-test.true

pub overflow_sub-out : goal.overflow_sub-out
overflow_sub-out c = (dig_room _ _ _ _ _ _ c.loop-rest.invariant _ c.requires).0

pub bounds-out-i-2 : goal.bounds-out-i-2
bounds-out-i-2 c = omega (arith, (dig_room _ _ _ _ _ _ c.loop-rest.invariant _ c.requires).1)

pub bounds-out-stop : goal.bounds-out-stop
bounds-out-stop c =
    let same = dig_length _ _ _ _ _ _ c.loop-rest.invariant in
    simp length-set (omega (arith, c.digit_count.ensures.exact, same, ended_length c.args.n c.args.end, c.requires))

pub overflow_add-result : goal.overflow_add-result
overflow_add-result c = omega (arith, c.digit_count.ensures.exact, ended_length c.args.n c.args.end, c.requires)

pub shape_of-out : goal.shape_of-out
shape_of-out c = simp length-set (dig_length _ _ _ _ _ _ c.loop-rest.invariant)

pub returns : goal.returns
returns c = rw c.digit_count.ensures.exact (dig_end _ _ _ _ _ _ c.loop-rest.invariant _ c.loop-rest-test.false)
