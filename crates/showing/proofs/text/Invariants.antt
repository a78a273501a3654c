-- `showing::text`: what is left of the bytes, put after those that are held, makes what all of them make. Assumes nothing.
use mathlib.Core.Path.{◌≡◌}
use lib.ListN.{drop}
use Rattle.showing.specs.Holding.{held, put_bytes_lem}
use Rattle.showing.proofs.text.Given as goal

abbrev pub invariant-loop-byte : goal.invariant-loop-byte
invariant-loop-byte l =
    put_bytes_lem (held l.initial.memory l.used) l.bytes ≡ put_bytes_lem (held l.memory l.held) (drop l.byte-index l.bytes)
