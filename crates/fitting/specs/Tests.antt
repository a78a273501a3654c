-- The test of rule 8 over the tables alone; rule 9's is `homed_by` of the crate homes.
--   fitting_by p gt pl lb g == rule 8, where the gene tables are sound: a node with a taxon is a leaf
-- crates/offers/proofs/Tests.antt shows that on sound tables both are the rules' own. Assumes nothing.
use Rattle.std.specs.Prelude.{ℕ, Bool, ◌&&◌, ◌||◌, List, get_or, eqb, ltb}
use Rattle.trees.specs.Lists.{pick}
use Rattle.trees.specs.Tables.{taxon}

-- "place not under p, or label wrong in kind"
unfoldable pub fitting_by : ℕ → List ℕ → List ℕ → List ℕ → ℕ → Bool
fitting_by p gt pl lb g = ltb (get_or pl g 0) p && pick (eqb (taxon gt g) 0) (eqb (get_or lb g 0) 1 || eqb (get_or lb g 0) 2) (eqb (get_or lb g 0) 0)
