-- `showing::put_table`: what is left of the table, put after what is held, makes what all of it makes. Assumes nothing.
use mathlib.Core.Path.{◌≡◌}
use mathlib.Core.List.{map}
use lib.ListN.{drop}
use Rattle.showing.specs.Holding.{held, put_bytes_lem}
use Rattle.showing.specs.Lines.{entries_from}
use Rattle.showing.proofs.put_table.Given as goal

abbrev pub invariant-loop-i : goal.invariant-loop-i
invariant-loop-i g l =
    put_bytes_lem (held l.initial.memory l.initial.used) (entries_from 0 (map g.T.Number.number l.table))
    ≡ put_bytes_lem (held l.memory l.used) (entries_from l.i (map g.T.Number.number (drop l.i l.table)))
