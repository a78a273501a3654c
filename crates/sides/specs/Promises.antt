-- What the one public function of this crate asks and promises.
--   Nestable sp gp pl lb  <-> two trees, places that are species nodes, and only inner nodes labelled speciations
--   JudgeSidesMeets .. r  <-> r is refusal 10 at the lowest gene node that fails its test, else 11 at its lowest, else sound
-- Assumes nothing.
use Rattle.std.specs.Prelude.{ℕ, ◌≤◌, ◌<◌, ◌≡◌, List, [], ◌∷◌, length, get_or}
use Rattle.trees.specs.Trees.{Inner}
use Rattle.trees.specs.Sound.{Treelike}
use Rattle.trees.specs.Rulings.{each, verdict}
use Rattle.trees.specs.Answers.{judged_of}
use Rattle.trees.specs.Answers.{Judged}
use Rattle.sides.specs.Tests.{nested_by, parted_by}

pub record Nestable (sp gp pl lb : List ℕ) : Type 0 where
  pub species : Treelike sp
  pub genes : Treelike gp
  pub places_room : length gp ≤ length pl
  pub labels_room : length gp ≤ length lb
  pub placed : (g : ℕ) → g < length gp → get_or pl g 0 < length sp
  pub kinds : (g : ℕ) → g < length gp → get_or lb g 0 ≡ 1 → Inner gp g

abbrev pub JudgeSidesMeets : List ℕ → List ℕ → List ℕ → List ℕ → Judged → Type 0
JudgeSidesMeets sp gp pl lb r = judged_of r ≡ verdict (each 10 2 (length gp) (nested_by sp gp pl) ∷ each 11 2 (length gp) (parted_by sp gp pl lb) ∷ [])
