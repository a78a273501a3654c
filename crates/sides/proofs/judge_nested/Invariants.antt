-- `sides::judge_nested`: the children passed are nested, and their sides are known. Assumes nothing.
use Prim.Native.Nat.{◌-◌}
use mathlib.Core.Path.{◌≡◌}
use lib.ListN.{length}
use Rattle.sides.proofs.Steps.{NestedTo}
use Rattle.sides.proofs.judge_nested.Given as goal

abbrev pub invariant-loop-c : goal.invariant-loop-c
invariant-loop-c l = NestedTo l.species_parents l.gene_parents l.places l.c l.sides
