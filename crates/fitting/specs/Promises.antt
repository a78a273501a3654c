-- What the functions of this crate ask and promise.
--   Fitting gt pl lb       <-> the tables of places and labels have an entry for each gene node
--   Placed st gt pl        <-> every gene node's place is a species node
--   JudgeFittingMeets .. r <-> r is refusal 8 at the lowest gene node that fails its test, else sound
--   JudgeHomesMeets .. r   <-> the same of 9
-- Assumes nothing.
use Rattle.std.specs.Prelude.{ℕ, ◌≤◌, ◌<◌, ◌≡◌, List, [], ◌∷◌, length, get_or}
use Rattle.trees.specs.Rulings.{each, verdict}
use Rattle.trees.specs.Answers.{judged_of}
use Rattle.trees.specs.Answers.{Judged}
use Rattle.homes.specs.Homes.{homed_by}
use Rattle.fitting.specs.Tests.{fitting_by}

pub record Fitting (gt pl lb : List ℕ) : Type 0 where
  pub few : length gt ≤ 2047
  pub places_room : length gt ≤ length pl
  pub labels_room : length gt ≤ length lb

pub record Placed (st gt pl : List ℕ) : Type 0 where
  pub room : length gt ≤ length pl
  pub inside : (g : ℕ) → g < length gt → get_or pl g 0 < length st

abbrev pub JudgeFittingMeets : ℕ → List ℕ → List ℕ → List ℕ → Judged → Type 0
JudgeFittingMeets p gt pl lb r = judged_of r ≡ verdict (each 8 2 (length gt) (fitting_by p gt pl lb) ∷ [])

abbrev pub JudgeHomesMeets : List ℕ → List ℕ → List ℕ → Judged → Type 0
JudgeHomesMeets st gt pl r = judged_of r ≡ verdict (each 9 2 (length gt) (homed_by st gt pl) ∷ [])
