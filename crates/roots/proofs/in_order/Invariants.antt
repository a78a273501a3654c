-- `roots::in_order`: nothing is noted exactly if the nodes passed come after their parents. Assumes nothing.
use Rattle.passes.proofs.Noting.{Noted}
use Rattle.roots.proofs.Parents.{FirstAt}
use Rattle.roots.proofs.in_order.Given as goal

abbrev pub invariant-loop-i : goal.invariant-loop-i
invariant-loop-i l = Noted (FirstAt l.parents) l.i l.wrong
