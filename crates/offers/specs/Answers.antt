-- What the judge of an offered history answers, in the paper's terms.
--   offered_counts c  == the counts handed back, as the paper's
--   Offered      == what that judge answers: what the history counts, or a refusal
--   offered_of r == the answer: the counts, or number, tree and place
--   Offerable    <-> what judging on sound trees needs
-- Assumes nothing.
use Rattle.std.specs.Prelude.{ℕ, ◌≤◌, List, length, Result, Ok, Err}
use Rattle.trees.specs.Rulings.{Ruling, accepted, refused_by}
use Rattle.trees.specs.Tables.{Pair}
use Rattle.trees.specs.declared.Refusal.{Refusal}
use Rattle.trees.specs.Sound.{Sound}
use Rattle.histories.specs.Rules.{OfferCounts}
use Rattle.offers.specs.declared.HistoryCounts.{HistoryCounts}

abbrev pub offered_counts : HistoryCounts → OfferCounts
offered_counts c = record { duplications = c.duplications; losses = c.losses; speciations = c.speciations }

abbrev pub Offered : Type 0
Offered = Result HistoryCounts Refusal

abbrev pub offered_of : Offered → Ruling OfferCounts
offered_of (Ok c) = accepted (offered_counts c)
offered_of (Err r) = refused_by r

pub record Offerable (w : Pair) (places labels : List ℕ) : Type 0 where
  pub sound : Sound w
  pub places_room : length w.gp ≤ length places
  pub labels_room : length w.gp ≤ length labels
