-- What the least history answers, in the paper's terms.
--   counts_of c    == the counts handed back, as the paper's
--   LeastAnswer    == what the least history answers: what it counts, or a refusal
--   least_of r     == the answer of the least history: the counts, or number, tree and place
-- Assumes nothing.
use Rattle.std.specs.Prelude.{Result, Ok, Err}
use Rattle.trees.specs.Rulings.{Ruling, accepted, refused_by}
use Rattle.trees.specs.declared.Refusal.{Refusal}
use Rattle.histories.specs.Rules.{Counts}
use Rattle.least.specs.declared.LeastCounts.{LeastCounts}

abbrev pub counts_of : LeastCounts → Counts
counts_of c = record { duplications = c.duplications; losses = c.losses; speciations = c.speciations; climbs = c.climbs; cost = c.cost }

abbrev pub LeastAnswer : Type 0
LeastAnswer = Result LeastCounts Refusal

abbrev pub least_of : LeastAnswer → Ruling Counts
least_of (Ok c) = accepted (counts_of c)
least_of (Err r) = refused_by r
