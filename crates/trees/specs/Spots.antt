-- Where a search ends.
--   Spot           == at a node (or a block), or nowhere
--   lowest_spot ok n == the lowest number below n that fails the test ok; nowhere if none fails
--   species_spot r == what a search for a species node hands back, in these terms
-- Assumes nothing.
use Rattle.std.specs.Prelude.{ℕ, Bool, eqb, Option, Some, None}
use Rattle.trees.specs.Lists.{lowest, pick}
use Rattle.trees.specs.declared.SpeciesNode.{SpeciesNode}

pub data Spot : Type 0 where
  spot : ℕ → Spot
  nowhere : Spot

unfoldable pub lowest_spot : (ℕ → Bool) → ℕ → Spot
lowest_spot ok n = pick (eqb (lowest ok n) n) nowhere (spot (lowest ok n))

abbrev pub species_spot : Option SpeciesNode → Spot
species_spot (Some s) = spot s.0
species_spot None = nowhere
