-- `fills::settling::settle_at`. Assumes nothing.
use native.Mathlib.Omega.{arith}
use Rattle.fills.proofs.Seats.{seated_inner, seated_leaf}
use Rattle.fills.proofs.settling.settle_at.Goals as goal

pub returns-then-sought-eq0 : goal.returns-then-sought-eq0
returns-then-sought-eq0 c = seated_inner _ _ _ _ c.if-sought-eq0.true

pub overflow_cast-place : goal.overflow_cast-place
overflow_cast-place c = omega (arith, c.type_inv.places c.args.node.0)

pub seat-home-requires : goal.seat-home-requires
seat-home-requires c = record { few = c.requires.1.roomy.few; some = c.requires.1.known c.args.node.0 c.requires.0 c.if-sought-eq0.false }

pub overflow_cast-places : goal.overflow_cast-places
overflow_cast-places c = omega (arith, c.seat-home.ensures.0, c.requires.1.roomy.few)

pub returns : goal.returns
returns c = seated_leaf _ _ _ _ _ c.requires.0 c.requires.1.roomy.room c.seat-home.ensures
