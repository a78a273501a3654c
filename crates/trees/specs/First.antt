-- Tables in which every parent comes before its children, as 01's own tables are numbered: there quick ways may go by the numbers.
--   ParentsFirst par <-> node 0 is the root, and the parent of every other node has a lower number
-- No answer depends on it. Assumes nothing.
use Rattle.std.specs.Prelude.{ℕ, ◌<◌, ◌≡◌, List, length}
use Rattle.trees.specs.Trees.{none, up}

pub record ParentsFirst (par : List ℕ) : Type 0 where
  pub top : up par 0 ≡ none
  pub order : (i : ℕ) → 0 < i → i < length par → up par i < i
