-- `put_zeros` meets its contract. The loop's invariant: `at` is where the next word stands, and the words before it are zero. Assumes nothing.
use Prim.Native.Nat.{◌+◌}
use mathlib.Core.Path.{◌≡◌}
use lib.ListN.{replicate}
use Rattle.words.specs.Words.{offset}
use Rattle.puts.proofs.Putting.{Putting}
use Rattle.puts.proofs.table.put_zeros.Given as goal

abbrev pub invariant-loop : goal.invariant-loop
invariant-loop l = (l.at ≡ offset (l.i + l.counter)) × Putting l.initial.image l.i l.image (replicate l.counter 0)
