-- What the rack's call of the least history answers and leaves.
--   rack_rules w places labels counts == the rules of the least history, in 01's order; 7 also if counts has under four entries
--   rack_counts w       == duplications, losses, speciations and climbs of the least history, as the call writes them
--   rack_ruling ..      == what the call answers
--   RackOutcome         == the number answered, with what the three lent tables hold after the call
--   rack_outcome ..     == the outcome: 0 and the least history, "and nothing after" its entries; or the refusal's number, and "lent memory
--                          .. unchanged"
--   number_in, tree_in, place_in == the number of a ruling that each call answers: 0 if it is accepted
-- Assumes nothing.
use Rattle.std.specs.Prelude.{ℕ, ◌&&◌, List, [], ◌∷◌, ◌++◌, length, leb}
use Rattle.trees.specs.Tables.{Pair}
use Rattle.trees.specs.Rulings.{Ruling, accepted, refused, Rule, whole, ruling}
use Rattle.trees.specs.Rules.{pair_rules}
use Rattle.trees.specs.Lent.{on_accepted}
use Rattle.histories.specs.Histories.{least, least_places, least_labels, duplications, speciations, losses_in, climbs_in}
use Rattle.histories.specs.Rules.{roomy}

unfoldable pub rack_rules : Pair → List ℕ → List ℕ → List ℕ → List Rule
rack_rules w places labels counts = pair_rules w ++ whole 7 0 0 (roomy w places labels && leb 4 (length counts)) ∷ []

abbrev pub four_of : ℕ → ℕ → ℕ → ℕ → List ℕ
four_of ds ls ss cs = ds ∷ ls ∷ ss ∷ cs ∷ []

unfoldable pub rack_counts : Pair → List ℕ
rack_counts w = four_of (duplications w.gp (least w)) (losses_in w (least w)) (speciations w.gp (least w)) (climbs_in w)

unfoldable pub rack_ruling : Pair → List ℕ → List ℕ → List ℕ → Ruling (List ℕ)
rack_ruling w places labels counts = ruling (rack_rules w places labels counts) (rack_counts w)

abbrev pub number_in : {A : Type 0} → Ruling A → ℕ
number_in (accepted c) = 0
number_in (refused n t v) = n

abbrev pub tree_in : {A : Type 0} → Ruling A → ℕ
tree_in (accepted c) = 0
tree_in (refused n t v) = t

abbrev pub place_in : {A : Type 0} → Ruling A → ℕ
place_in (accepted c) = 0
place_in (refused n t v) = v

pub record RackOutcome : Type 0 where
  pub number : ℕ
  pub places : List ℕ
  pub labels : List ℕ
  pub counts : List ℕ

unfoldable pub rack_outcome : Pair → List ℕ → List ℕ → List ℕ → RackOutcome
rack_outcome w places labels counts =
    record {
      number = number_in (rack_ruling w places labels counts);
      places = on_accepted (rack_ruling w places labels counts) (least_places w) places;
      labels = on_accepted (rack_ruling w places labels counts) (least_labels w) labels;
      counts = on_accepted (rack_ruling w places labels counts) (rack_counts w) counts;
    }
