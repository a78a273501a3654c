-- Private to the functions that compare a table piece by piece: what is known of the entries passed; nothing of it is part of a promise.
--   Starts new old r <-> the first r entries of old are those of new
-- Assumes nothing.
use Rattle.std.specs.Prelude.{ℕ, ◌≤◌, ◌≡◌, List, length, take}

pub record Starts {E : Type 0} (new old : List E) (r : ℕ) : Type 0 where
  pub low : r ≤ length old
  pub is : take r old ≡ take r new
