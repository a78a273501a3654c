-- Gene leaves at their species.
--   homed_by st gt pl g == has gene node g no taxon, or a place that carries it? Where rules 4, 5 and 8 hold this is rule 9
--   Homed st gt pl      <-> each gene node with a taxon has a place that carries it
-- Assumes nothing.
use Rattle.std.specs.Prelude.{ℕ, ◌<◌, ◌≡◌, ◌≢◌, Bool, ◌||◌, List, length, get_or, eqb}
use Rattle.trees.specs.Tables.{taxon}

unfoldable pub homed_by : List ℕ → List ℕ → List ℕ → ℕ → Bool
homed_by st gt pl g = eqb (taxon gt g) 0 || eqb (taxon st (get_or pl g 0)) (taxon gt g)

pub record Homed (st gt pl : List ℕ) : Type 0 where
  pub home : (g : ℕ) → g < length gt → taxon gt g ≢ 0 → (get_or pl g 0 < length st) × (taxon st (get_or pl g 0) ≡ taxon gt g)
