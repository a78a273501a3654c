-- `nesting::all_inside`: the gene nodes passed lie inside their parents' places' runs, and their codes are added up. Assumes nothing.
use mathlib.Core.Path.{◌≡◌}
use lib.ListN.{length}
use Rattle.nesting.specs.Codes.{Coding}
use Rattle.nesting.proofs.all_inside.Given as goal

abbrev pub invariant-loop-c : goal.invariant-loop-c
invariant-loop-c g l = (l.q ≡ length l.gene_parents) × Coding l.gene_parents l.places l.at.starts l.at.runs l.at.turns l.c l.sides
