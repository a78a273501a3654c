-- `printing::put_lines`: the lines of the nodes passed are put. Assumes nothing.
use Rattle.histories.specs.Histories.{told}
use Rattle.printing.specs.Putting.{Put}
use Rattle.printing.proofs.Lines.{lines_to}
use Rattle.printing.proofs.put_lines.Given as goal

abbrev pub invariant-loop-i : goal.invariant-loop-i
invariant-loop-i l = Put 0 (lines_to (told l.places l.labels) l.i) l.initial.out l.out l.at
