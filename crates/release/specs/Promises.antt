-- What the public function promises, of the contents at entry and the answer.
--   FirstDifferenceMeets image i parents taxa r <-> r is the lowest species node at which the two tables that stand from word i on, parents and
--                                                   then taxa, are not these; nowhere if there is none
-- Assumes nothing.
use Rattle.std.specs.Prelude.{ℕ, ◌≡◌, List, length, Option}
use Rattle.trees.specs.Spots.{lowest_spot, species_spot}
use Rattle.trees.specs.declared.SpeciesNode.{SpeciesNode}
use Rattle.blocks.specs.Blocks.{content}
use Rattle.words.specs.Words.{agree}

abbrev pub FirstDifferenceMeets : List ℕ → ℕ → List ℕ → List ℕ → Option SpeciesNode → Type 0
FirstDifferenceMeets image i parents taxa r = species_spot r ≡ lowest_spot (agree (content image) i parents taxa) (length parents)
