-- `put` meets its contract. The loop's invariant: `at` is where the next word stands, and the first entries are put. Assumes nothing.
use Rattle.std.proofs.Common.{◌≡◌, ◌+◌, ◌*◌, take}
use Rattle.words.specs.Words.{offset}
use Rattle.puts.proofs.Putting.{Putting}
use Rattle.puts.proofs.table.put.Given as goal

abbrev pub invariant-loop-x : goal.invariant-loop-x
invariant-loop-x g l = (l.at ≡ offset (l.i + g.T.Entry.WORDS * l.x-index)) × Putting l.initial.image l.i l.image (g.T.Put.words (take l.x-index l.table))
