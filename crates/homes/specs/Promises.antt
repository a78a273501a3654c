-- What the functions of this crate ask and promise.
--   Homeable st gt pl g <-> g is a gene node, and its place a species node
--   Housed st gt pl     <-> every gene node's place is one of at most 65,535 species nodes, and each passes `homed_by`
--   HomedAtMeets, AllHomedMeets <-> the two promises
-- Assumes nothing.
use Rattle.std.specs.Prelude.{ℕ, ◌≤◌, ◌<◌, ◌≡◌, ◌↔◌, Bool, List, length, get_or, T}
use Rattle.passes.specs.Promises.{AllBelow}
use Rattle.homes.specs.Homes.{homed_by}

pub record Homeable (st gt pl : List ℕ) (g : ℕ) : Type 0 where
  pub inside : g < length gt
  pub room : g < length pl
  pub place : get_or pl g 0 < length st

abbrev pub HomedAtMeets : List ℕ → List ℕ → List ℕ → ℕ → Bool → Type 0
HomedAtMeets st gt pl g r = r ≡ homed_by st gt pl g

pub record Housed (st gt pl : List ℕ) : Type 0 where
  pub few : length st ≤ 65535
  pub places : AllBelow pl (length gt) (length st)
  pub home : (g : ℕ) → g < length gt → T (homed_by st gt pl g)

abbrev pub AllHomedMeets : List ℕ → List ℕ → List ℕ → Bool → Type 0
AllHomedMeets st gt pl r = T r ↔ Housed st gt pl
