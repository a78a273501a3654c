-- Private to the quick test: a species table put in order, and the places with it; nothing of it is part of a promise.
--   Movable spots pl mv <-> there is a place for each entry of mv, and a position for each place
--   Moved spots pl mv   <-> mv has the position of each place
--   Placeable, Put      <-> what putting a copy in order needs and leaves: the tree of par by positions, parents first, and the places
--   Copied ..           <-> what the test of the copy needs: a tree of p nodes with parents first, and fresh tables
-- Assumes nothing.
use Rattle.std.specs.Prelude.{ℕ, ◌≤◌, ◌<◌, ◌≡◌, List, length, get_or, take}
use Rattle.trees.specs.First.{ParentsFirst}
use Rattle.trees.specs.Sound.{Treelike}
use Rattle.orders.specs.Promises.{Orderable, Ordered}
use Rattle.sides.specs.Promises.{Nestable}

pub record Movable (spots pl mv : List ℕ) : Type 0 where
  pub few : length mv ≤ 2047
  pub room : length mv ≤ length pl
  pub placed : (g : ℕ) → g < length mv → get_or pl g 0 < length spots

abbrev pub Moved : List ℕ → List ℕ → List ℕ → Type 0
Moved spots pl mv = (g : ℕ) → g < length mv → get_or mv g 0 ≡ get_or spots (get_or pl g 0) 0

pub record Placeable (par pl copy mv spots way : List ℕ) : Type 0 where
  pub tree : Treelike par
  pub orderable : Orderable par spots copy way
  pub movable : Movable spots pl mv

pub record Put (par pl copy mv : List ℕ) : Type 0 where
  pub spots : List ℕ
  pub ordered : Ordered par spots copy
  pub moved : Moved spots pl mv

pub record Copied (copy : List ℕ) (p : ℕ) (gp mv lb start run turn : List ℕ) : Type 0 where
  pub size : length copy ≡ 2047
  pub part : length (take p copy) ≡ p
  pub nestable : Nestable (take p copy) gp mv lb
  pub first : ParentsFirst (take p copy)
  pub ones : (j : ℕ) → j < 2047 → get_or run j 0 ≡ 1
