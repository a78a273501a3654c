-- What the one public function of this crate promises: what the count by depths does, said there.
--   CountClimbsMeets .. r <-> r has the duplications, losses, speciations and climbs that 01 counts of the history
-- Assumes nothing.
use Rattle.std.specs.Prelude.{ℕ, List}
use Rattle.trees.specs.Tables.{Pair}
use Rattle.counts.specs.Promises.{CountHistoryMeets}
use Rattle.counts.specs.declared.Tally.{Tally}

abbrev pub CountClimbsMeets : Pair → List ℕ → List ℕ → Tally → Type 0
CountClimbsMeets w places labels r = CountHistoryMeets w places labels r
