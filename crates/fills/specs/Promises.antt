-- What the fill asks and promises.
--   Fillable w p l        <-> two sound trees, and two tables that are long enough
--   FillMeets w p l p' l' <-> the first q entries of both tables are the least history's, the rest is as it was
-- Assumes nothing.
use Rattle.std.specs.Prelude.{ℕ, ◌≤◌, ◌≡◌, List, length}
use Rattle.trees.specs.Tables.{Pair}
use Rattle.trees.specs.Sound.{Sound}
use Rattle.trees.specs.Lent.{replaced}
use Rattle.histories.specs.Histories.{least_places, least_labels}

pub record Fillable (w : Pair) (p l : List ℕ) : Type 0 where
  pub sound : Sound w
  pub places_room : length w.gp ≤ length p
  pub labels_room : length w.gp ≤ length l

pub record FillMeets (w : Pair) (p l p' l' : List ℕ) : Type 0 where
  pub places : p' ≡ replaced (least_places w) p
  pub labels : l' ≡ replaced (least_labels w) l
