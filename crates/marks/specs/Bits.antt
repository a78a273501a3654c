-- A table that has two bits for each node, four nodes an entry.
--   two x k        == the two bits of the entry x at place k, as a number
--   more x k       == x with one more there
--   two_at_lem c g == the two bits of node g
--   raised c u     == c with one more at node u
--   Counted c u d  <-> d has one more than c at node u, and is as c elsewhere
--   Blank c        <-> 512 zeros
-- Assumes nothing.
use Rattle.std.specs.Prelude.{ℕ, ◌+◌, ◌*◌, ◌/◌, ◌%◌, ◌^◌, ◌<◌, ◌≡◌, ◌≢◌, List, length, get_or, set}

unfoldable pub two : ℕ → ℕ → ℕ
two x k = x / 2 ^ (2 * k) % 4

unfoldable pub more : ℕ → ℕ → ℕ
more x k = x + 2 ^ (2 * k)

unfoldable pub two_at_lem : List ℕ → ℕ → ℕ
two_at_lem c g = two (get_or c (g / 4) 0) (g % 4)

abbrev pub raised : List ℕ → ℕ → List ℕ
raised c u = set c (u / 4) (more (get_or c (u / 4) 0) (u % 4))

pub record Counted (c : List ℕ) (u : ℕ) (d : List ℕ) : Type 0 where
  pub here : two_at_lem d u ≡ two_at_lem c u + 1
  pub there : (g : ℕ) → g ≢ u → two_at_lem d g ≡ two_at_lem c g

pub record Blank (c : List ℕ) : Type 0 where
  pub size : length c ≡ 512
  pub zero : (k : ℕ) → k < 512 → get_or c k 0 ≡ 0
