-- What the judge of an offered history promises.
--   JudgeRulesMeets .. r   <-> r is the first of refusals 8 to 11, each at its lowest gene node, else sound; what was known before does
--                              not change it
--   JudgeDescentMeets .. r <-> the same, and what the history counts if it is legal
--   JudgeOfferMeets .. r   <-> the trees' refusals and 7 before that
-- Assumes nothing.
use Rattle.std.specs.Prelude.{ℕ, ◌≡◌, Bool, List}
use Rattle.trees.specs.Rulings.{ruling, verdict}
use Rattle.trees.specs.Tables.{Pair}
use Rattle.trees.specs.Answers.{Judged, judged_of}
use Rattle.histories.specs.Histories.{told, every_node}
use Rattle.histories.specs.Rules.{descent_rules, offer_counts, offer_ruling}
use Rattle.offers.specs.Answers.{Offered, offered_of}

-- "8-11"
abbrev pub JudgeRulesMeets : Pair → List ℕ → List ℕ → Bool → Judged → Type 0
JudgeRulesMeets w places labels homed r = judged_of r ≡ verdict (descent_rules w every_node (told places labels))

abbrev pub JudgeDescentMeets : Pair → List ℕ → List ℕ → Offered → Type 0
JudgeDescentMeets w places labels r =
    offered_of r ≡ ruling (descent_rules w every_node (told places labels)) (offer_counts w (told places labels))

-- "offered history 7, 8-11"
abbrev pub JudgeOfferMeets : Pair → List ℕ → List ℕ → Offered → Type 0
JudgeOfferMeets w places labels r = offered_of r ≡ offer_ruling w places labels
