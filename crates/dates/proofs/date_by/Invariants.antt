-- `dates::date_by`: the nearest speciation is the first on what is left of the line. Assumes nothing.
use mathlib.Core.Path.{◌≡◌}
use lib.ListN.{length}
use Rattle.trees.specs.Trees.{line}
use Rattle.trees.specs.Tables.{Pair}
use Rattle.histories.specs.Dating.{latest}
use Rattle.dates.specs.Answers.{Told}
use Rattle.dates.proofs.Dates.{nearest}
use Rattle.dates.proofs.date_by.Given as goal

abbrev pub invariant-loop-u : goal.invariant-loop-u
invariant-loop-u l = (l.q ≡ length l.gene_parents) × ((w : Pair) → Told w l.gene_parents l.places l.labels → latest w l.v ≡ nearest w l.u)

abbrev pub decreases-loop-u : goal.decreases-loop-u
decreases-loop-u l = length (line l.gene_parents l.u)
