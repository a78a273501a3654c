-- `seal_all` meets its contract. The loop's invariant: the first k blocks are sealed, the rest is as it was. Assumes nothing.
use Rattle.puts.proofs.Sealing.{Sealing}
use Rattle.puts.proofs.seal.seal_all.Given as goal

abbrev pub invariant-loop-k : goal.invariant-loop-k
invariant-loop-k l = Sealing l.initial.image l.image l.k
