-- What the functions of this crate promise.
--   EnterMeets st from r      <-> the next round begins at r, behind `from`; nothing is promised of the hints, which are verified when used
--   AskMeets st hints t r     <-> r is what the hints answer to t
-- Assumes nothing.
use Rattle.std.specs.Prelude.{ℕ, ◌≤◌, ◌<◌, ◌≡◌, List, length, Option}
use Rattle.trees.specs.declared.SpeciesNode.{SpeciesNode}
use Rattle.hints.specs.Hints.{ask_of}

abbrev pub EnterMeets : List ℕ → ℕ → ℕ → Type 0
EnterMeets st from r = (from < r) × (r ≤ length st)

abbrev pub AskMeets : List ℕ → List ℕ → ℕ → Option SpeciesNode → Type 0
AskMeets st hints t r = r ≡ ask_of st hints t
