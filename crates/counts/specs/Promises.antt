-- What the public functions of this crate promise.
--   CountHistoryMeets .. r        <-> r has the duplications, losses, speciations and climbs that 01 counts of the history
--   AddUpMeets pre post labels r  <-> r is what the labels and the steps s add up to, if the calls may be made and answer what s says
--                                     (`pre g`: the call at g may be made; `post g k`: it may answer k)
-- Assumes nothing.
use Rattle.std.specs.Prelude.{ℕ, ◌≡◌, List}
use Rattle.trees.specs.Tables.{Pair}
use Rattle.histories.specs.Histories.{told}
use Rattle.trees.specs.declared.GeneNode.{GeneNode}
use Rattle.counts.specs.Adding.{Addable, Added}
use Rattle.counts.specs.Tallies.{tallied_of, history_tally}
use Rattle.counts.specs.declared.Tally.{Tally}

abbrev pub CountHistoryMeets : Pair → List ℕ → List ℕ → Tally → Type 0
CountHistoryMeets w places labels r = tallied_of r ≡ history_tally w (told places labels)

abbrev pub AddUpMeets : (GeneNode → Type 0) → (GeneNode → ℕ → Type 0) → List ℕ → Tally → Type 0
AddUpMeets pre post labels r = (s : ℕ → ℕ) → Addable pre post labels s → Added labels s r
