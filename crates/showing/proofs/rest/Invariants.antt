-- `showing::rest`: what is left of the numbers, put after those that are held, makes what all of them make. Assumes nothing.
use Prim.Native.Nat.{◌-◌}
use mathlib.Core.Path.{◌≡◌}
use lib.ListN.{length}
use Rattle.showing.specs.Holding.{held, put_bytes_lem}
use Rattle.showing.specs.Lines.{spaced_from}
use Rattle.showing.proofs.rest.Given as goal

abbrev pub invariant-loop-n : goal.invariant-loop-n
invariant-loop-n l =
    put_bytes_lem (held l.initial.memory l.used) (spaced_from l.numbers 0 (length l.numbers))
    ≡ put_bytes_lem (held l.memory l.held) (spaced_from l.numbers l.n-index (length l.numbers - l.n-index))
