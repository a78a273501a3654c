-- Private to the functions of this crate: children counted with two bits a node. Nothing of it is part of a promise.
--   Childed par i c        <-> each node has in c how many of the first i nodes are its children
--   Shapely par tax        <-> every node has as many children as its taxon wants
-- Assumes nothing.
use Rattle.std.specs.Prelude.{ℕ, ◌<◌, ◌≡◌, List, length, eqb}
use Rattle.trees.specs.Lists.{range, keep_if}
use Rattle.trees.specs.Trees.{up, kids}
use Rattle.trees.specs.Tables.{taxon}
use Rattle.shapes.specs.Counts.{wanted_count}
use Rattle.marks.specs.Bits.{two_at_lem}

pub record Childed (par : List ℕ) (i : ℕ) (c : List ℕ) : Type 0 where
  pub size : length c ≡ 512
  pub count : (g : ℕ) → g < length par → two_at_lem c g ≡ length (keep_if (λ j. eqb (up par j) g) (range 0 i))

pub record Shapely (par tax : List ℕ) : Type 0 where
  pub wanted : (i : ℕ) → i < length par → length (kids par i) ≡ wanted_count (taxon tax i)
