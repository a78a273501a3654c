-- How many entries of a table were read, whatever its entries are.
--   IsCount n xs <-> n counts entries at the start of xs; of a table of numbers it is what the kit's IsPrefixLen says
-- Assumes nothing.
use Rattle.std.specs.Prelude.{ℕ, ◌≤◌, ◌≡◌, List, length, take}

abbrev pub IsCount : {A : Type 0} → ℕ → List A → Type 0
IsCount n xs = (n ≤ length xs) × (n ≡ length (take n xs))
