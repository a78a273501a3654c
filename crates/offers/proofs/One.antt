-- One answer only: any two answers that meet a contract of this crate are equal. Assumes nothing.
use Rattle.std.specs.Prelude.{Ok, Err}
use Prim.Native.Nat.{ℕ}
use mathlib.Core.Path.{◌≡◌, ap}
use mathlib.Core.Bool.{Bool}
use mathlib.Core.List.{List}
use Rattle.trees.specs.One.{Single}
use Rattle.trees.specs.Rulings.{ruling, verdict}
use Rattle.trees.specs.Tables.{Pair}
use Rattle.trees.proofs.Bools.{clash}
use Rattle.trees.proofs.One.{single_view}
use Rattle.trees.proofs.Rulings.{refusal_one}
use Rattle.histories.specs.Histories.{told, every_node}
use Rattle.histories.specs.Rules.{OfferCounts, descent_rules, offer_counts, offer_ruling}
use Rattle.trees.specs.Answers.{judged_of}
use Rattle.trees.proofs.Answers.{judged_one}
use Rattle.offers.specs.Answers.{offered_counts, offered_of}
use Rattle.offers.specs.Promises.{JudgeRulesMeets, JudgeDescentMeets, JudgeOfferMeets}
use Rattle.offers.specs.declared.HistoryCounts.{HistoryCounts}
use Rattle.offers.specs.Answers.{Offered}

counts_one : (a b : HistoryCounts) → offered_counts a ≡ offered_counts b → a ≡ b
counts_one a b e = ap (λ (c : OfferCounts). record { duplications = c.duplications; losses = c.losses; speciations = c.speciations }) e

pub offered_one : (a b : Offered) → offered_of a ≡ offered_of b → a ≡ b
offered_one (Ok a) (Ok b) e = let q : offered_counts a ≡ offered_counts b = cc in ap Ok (counts_one a b q)
offered_one (Ok a) (Err s) e = clash (cc)
offered_one (Err r) (Ok b) e = clash (cc)
offered_one (Err r) (Err s) e = ap Err (refusal_one r s e)

-- ---- one theorem for each public function

pub judge_rules_one : (w : Pair) (places labels : List ℕ) (homed : Bool) → Single (JudgeRulesMeets w places labels homed)
judge_rules_one w places labels homed = single_view judged_of judged_one (verdict (descent_rules w every_node (told places labels)))

pub judge_descent_one : (w : Pair) (places labels : List ℕ) → Single (JudgeDescentMeets w places labels)
judge_descent_one w places labels =
    single_view offered_of offered_one (ruling (descent_rules w every_node (told places labels)) (offer_counts w (told places labels)))

pub judge_offer_one : (w : Pair) (places labels : List ℕ) → Single (JudgeOfferMeets w places labels)
judge_offer_one w places labels = single_view offered_of offered_one (offer_ruling w places labels)
