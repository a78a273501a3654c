-- What the join promises.
--   JoinMeets sp a b r <-> r is the lowest common ancestor of the species nodes a and b
-- Assumes nothing.
use Rattle.std.specs.Prelude.{ℕ, List}
use Rattle.trees.specs.Trees.{Meet}
use Rattle.trees.specs.declared.SpeciesNode.{SpeciesNode}

abbrev pub JoinMeets : List ℕ → ℕ → ℕ → SpeciesNode → Type 0
JoinMeets sp a b r = Meet sp a b r.0
