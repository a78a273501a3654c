-- What the functions of this crate promise.
--   BlankMeets d         <-> d has 512 zeros
--   TwoAtMeets c u r     <-> r is the two bits of node u
--   AddOneMeets c u r d  <-> r says whether node u had at most one, and then d has one more there; else d is c
-- Assumes nothing.
use Rattle.std.specs.Prelude.{ℕ, ◌≡◌, Bool, List, ltb}
use Rattle.trees.specs.Lists.{pick}
use Rattle.marks.specs.Bits.{two_at_lem, raised, Blank}

abbrev pub BlankMeets : List ℕ → Type 0
BlankMeets d = Blank d

abbrev pub TwoAtMeets : List ℕ → ℕ → ℕ → Type 0
TwoAtMeets c u r = r ≡ two_at_lem c u

abbrev pub AddOneMeets : List ℕ → ℕ → Bool → List ℕ → Type 0
AddOneMeets c u r d = (r ≡ ltb (two_at_lem c u) 2) × (d ≡ pick r (raised c u) c)
