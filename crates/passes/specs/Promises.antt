-- What passes over a table tell.
--   AllBelow t q b <-> the table t has q entries, each below b
--   NotedMeets wrong right r <-> r is what was noted so far, or 1
--   AllBelowMeets t q b r    <-> r is yes exactly if AllBelow
-- Assumes nothing.
use Rattle.std.specs.Prelude.{ℕ, ◌≤◌, ◌<◌, ◌≡◌, ◌↔◌, Bool, List, length, get_or, T}
use Rattle.trees.specs.Lists.{pick}

pub record AllBelow (t : List ℕ) (q b : ℕ) : Type 0 where
  pub room : q ≤ length t
  pub below : (g : ℕ) → g < q → get_or t g 0 < b

abbrev pub NotedMeets : ℕ → Bool → ℕ → Type 0
NotedMeets wrong right r = r ≡ pick right wrong 1

abbrev pub AllBelowMeets : List ℕ → ℕ → ℕ → Bool → Type 0
AllBelowMeets t q b r = T r ↔ AllBelow t q b
