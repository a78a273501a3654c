-- `reading::read_table`: the words passed tell the entries written. Assumes nothing.
use mathlib.Core.List.{map}
use lib.ListN.{take, replicate}
use Rattle.reading.specs.Readers.{Taken}
use Rattle.reading.proofs.read_table.Given as goal

abbrev pub invariant-loop-entry : goal.invariant-loop-entry
invariant-loop-entry g l =
    Taken l.text l.at (replicate l.entry-index g.T.Entry.width) (map g.T.Entry.number (take l.entry-index l.table)) l.next
