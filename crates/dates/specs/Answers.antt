-- What dating answers, in the paper's terms.
--   DatingAnswer   == what dating answers: a dating, or a refusal
--   dated_of d, dating_of r == the answer of dating, in the paper's terms
--   Datable, Told  <-> private to `date_by`: what dating by two tables needs, and that they tell the least history
-- Assumes nothing.
use Rattle.std.specs.Prelude.{ℕ, ◌≤◌, ◌<◌, ◌≡◌, List, length, get_or, Result, Ok, Err}
use Rattle.trees.specs.Rulings.{Ruling, accepted, refused_by}
use Rattle.trees.specs.Tables.{Pair}
use Rattle.trees.specs.declared.Refusal.{Refusal}
use Rattle.trees.specs.Sound.{Treelike, Sound}
use Rattle.histories.specs.Places.{place}
use Rattle.histories.specs.Histories.{label}
use Rattle.histories.specs.Dating.{Dated, not_duplication, from, between}
use Rattle.dates.specs.declared.Dating.{Dating}
use Rattle.dates.specs.declared.Dating.TheVariants.{NotDuplication, From, Between}

abbrev pub dated_of : Dating → Dated
dated_of NotDuplication = not_duplication
dated_of (From a) = from a.0
dated_of (Between a b) = between a.0 b.0

-- what dating by the tables needs: a chain of parents that ends, and entries for every gene node
pub record Datable (gp p l : List ℕ) (v : ℕ) : Type 0 where
  pub tree : Treelike gp
  pub inside : v < length gp
  pub places_room : length gp ≤ length p
  pub labels_room : length gp ≤ length l

-- the tables tell the least history of two sound trees
pub record Told (w : Pair) (gp p l : List ℕ) : Type 0 where
  pub sound : Sound w
  pub genes : w.gp ≡ gp
  pub places : (g : ℕ) → g < length gp → get_or p g 0 ≡ place w g
  pub labels : (g : ℕ) → g < length gp → get_or l g 0 ≡ label w g

abbrev pub DatingAnswer : Type 0
DatingAnswer = Result Dating Refusal

abbrev pub dating_of : DatingAnswer → Ruling Dated
dating_of (Ok d) = accepted (dated_of d)
dating_of (Err r) = refused_by r
