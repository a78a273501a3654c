-- What dating promises.
--   DateMeets w v r <-> r is the ruling of dating gene node v: the trees' refusals, then 19, else its dating in the least history
-- Assumes nothing.
use Rattle.std.specs.Prelude.{ℕ, ◌≡◌}
use Rattle.trees.specs.Tables.{Pair}
use Rattle.histories.specs.Rules.{dating_ruling}
use Rattle.dates.specs.Answers.{dating_of}
use Rattle.dates.specs.Answers.{DatingAnswer}

abbrev pub DateMeets : Pair → ℕ → DatingAnswer → Type 0
DateMeets w v r = dating_of r ≡ dating_ruling w v
