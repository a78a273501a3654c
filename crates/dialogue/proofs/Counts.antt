-- What read_table and read_tables promise, of a table of numbers, is what the kit's IsPrefixLen says. Assumes nothing.
use Rattle.std.specs.Prelude.{ℕ, List}
use Rattle.io.specs.Counts.{IsPrefixLen}
use Rattle.dialogue.specs.Counts.{IsCount}

-- a count of the entries at the start of a table of numbers is the length of a slice from its start
pub count_prefix : (n : ℕ) (xs : List ℕ) → IsCount n xs → IsPrefixLen n xs
count_prefix n xs h = h
