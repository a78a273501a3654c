-- The tests of rules 10 and 11 over the tables alone.
--   side_of sp a x          == the child of species node a that x is at or below; none if x is not properly below a
--   nested_by sp gp pl c    == rule 10, by the side of its parent's place on which the place of c lies
--   parted_by sp gp pl lb g == rule 11, by the sides of g's place on which the places of its two children lie
-- proofs/Tests.antt shows that on sound tables each is the rule's own. None of it asks how nodes are numbered. Assumes nothing.
use Rattle.std.specs.Prelude.{ℕ, Bool, true, ◌&&◌, ◌||◌, not, List, length, get_or, eqb, ltb}
use Rattle.trees.specs.Lists.{first, pick}
use Rattle.trees.specs.Trees.{none, up, line, kid}

unfoldable pub side_of : List ℕ → ℕ → ℕ → ℕ
side_of sp a x = first (λ s. eqb (up sp s) a) (line sp x) none

-- "node not at or below its parent's place": it is at it, or on a side of it
unfoldable pub nested_by : List ℕ → List ℕ → List ℕ → ℕ → Bool
nested_by sp gp pl c =
    pick (ltb (get_or gp c 0) (length gp))
    (eqb (get_or pl c 0) (get_or pl (get_or gp c 0) 0) || not (eqb (side_of sp (get_or pl (get_or gp c 0) 0) (get_or pl c 0)) none)) true

-- two places have a side each, and not the same
unfoldable pub either_side : ℕ → ℕ → Bool
either_side s t = not (eqb s none) && (not (eqb t none) && not (eqb s t))

-- "speciation without one child on either side"
unfoldable pub parted_by : List ℕ → List ℕ → List ℕ → List ℕ → ℕ → Bool
parted_by sp gp pl lb g =
    not (eqb (get_or lb g 0) 1)
    || either_side (side_of sp (get_or pl g 0) (get_or pl (kid gp g 0) 0)) (side_of sp (get_or pl g 0) (get_or pl (kid gp g 1) 0))
