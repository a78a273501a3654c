-- `hints::hint_at`. Assumes nothing.
use native.Mathlib.Omega.{arith}
use Rattle.trees.proofs.Slots.{slot_below}
use Rattle.hints.proofs.hint_at.Goals as goal

pub first_free-k-requires : goal.first_free-k-requires
first_free-k-requires c = rw c.slot_of-s.ensures (slot_below _ 512 (omega arith))
