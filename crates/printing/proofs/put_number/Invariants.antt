-- `printing::put_number`: the digits behind those of the rest are put. Assumes nothing.
use Rattle.printing.proofs.Putting.{Digging}
use Rattle.printing.proofs.put_number.Given as goal

abbrev pub invariant-loop-rest : goal.invariant-loop-rest
invariant-loop-rest l = Digging l.n l.at l.initial.out l.i l.rest l.out

abbrev pub decreases-loop-rest : goal.decreases-loop-rest
decreases-loop-rest l = l.rest
