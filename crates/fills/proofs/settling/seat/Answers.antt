-- `fills::settling::seat`. Assumes nothing.
use Rattle.trees.proofs.Bools.{true_T}
use Rattle.fills.specs.Settling.{Carries}
use Rattle.fills.proofs.Seats.{seat_or}
use Rattle.fills.proofs.settling.seat.Goals as goal

pub returns-then-carries : goal.returns-then-carries
returns-then-carries c = c.carries.ensures (true_T c.if-carries.true)

pub returns : goal.returns
returns c = seat_or _ _ _ c.species_of.ensures c.requires _ _ c.unwrap_or.ensures
