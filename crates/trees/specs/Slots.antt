-- Where the search for a taxon begins, in a table with so many slots.
--   slot_in t n == the slot of the taxon t among n: t's product with an odd constant, of 32 bits, as a share of n
-- Assumes nothing.
use Rattle.std.specs.Prelude.{ℕ, ◌*◌, ◌/◌, ◌%◌}

unfoldable pub slot_in : ℕ → ℕ → ℕ
slot_in t n = t * 2654435761 % 4294967296 * n / 4294967296
