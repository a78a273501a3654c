-- What is counted of a history.
--   Totals            == duplications, losses, speciations and climbs
--   tallied_of r      == the numbers that the function hands back
--   history_tally w h == what 01 counts of h
--   Story w places labels <-> a legal history of two sound trees, in tables that are long enough
-- Assumes nothing.
use Rattle.std.specs.Prelude.{ℕ, ◌≤◌, List, length}
use Rattle.trees.specs.Tables.{Pair}
use Rattle.trees.specs.Sound.{Sound}
use Rattle.histories.specs.Histories.{History, told, every_node, depth_in, duplications, speciations, losses_in, climbs}
use Rattle.histories.specs.Legal.{Legal}
use Rattle.counts.specs.declared.Tally.{Tally}

pub record Totals : Type 0 where
  pub duplications : ℕ
  pub losses : ℕ
  pub speciations : ℕ
  pub climbs : ℕ

abbrev pub tallied_of : Tally → Totals
tallied_of r = record { duplications = r.duplications; losses = r.losses; speciations = r.speciations; climbs = r.climbs }

unfoldable pub history_tally : Pair → History → Totals
history_tally w h =
    record { duplications = duplications w.gp h; losses = losses_in w h; speciations = speciations w.gp h; climbs = climbs (depth_in w) w.gp h }

pub record Story (w : Pair) (places labels : List ℕ) : Type 0 where
  pub sound : Sound w
  pub places_room : length w.gp ≤ length places
  pub labels_room : length w.gp ≤ length labels
  pub legal : Legal w every_node (told places labels)
