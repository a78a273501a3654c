-- Private to the functions that read a table piece by piece: what a piece leaves of the table; nothing of it is part of a promise.
--   Front new old out r <-> out is old with its first r entries those of new, and r is one or more
-- Assumes nothing.
use Rattle.std.specs.Prelude.{ℕ, ◌<◌, ◌≤◌, ◌≡◌, List, ◌++◌, length, take, drop}

pub record Front {E : Type 0} (new old out : List E) (r : ℕ) : Type 0 where
  pub some : 0 < r
  pub low : r ≤ length old
  pub is : out ≡ take r new ++ drop r old
