-- `offers::judge_descent`: the rules are judged, then what is legal is counted. Assumes nothing.
use mathlib.Core.Path.{◌≡◌, sym, ap, ◌∙◌}
use Rattle.trees.specs.Rulings.{accepted, verdict, fine}
use Rattle.trees.specs.Tables.{pair_of}
use Rattle.trees.specs.Answers.{judged_of}
use Rattle.histories.specs.Histories.{told, every_node}
use Rattle.histories.specs.Rules.{descent_rules}
use Rattle.counts.specs.Tallies.{tallied_of}
use Rattle.offers.proofs.Descents.{descent_refused, descent_accepted, story_here, offer_counts_are}
use Rattle.std.proofs.lemmas.Result.{err_from_is_err_and}
use Rattle.offers.proofs.judge_descent.Goals as goal

pub judge_rules-requires : goal.judge_rules-requires
judge_rules-requires c = (c.requires, λ t. absurd t)

pub returns-in_err-judge_rules : goal.returns-in_err-judge_rules
returns-in_err-judge_rules c =
    let p = err_from_is_err_and c.from_residual.result c.from_residual.ensures.1 in rw (p.1, p.2) (sym (descent_refused c.requires _ _ _ (sym c.in_err-judge_rules.ensures)))

pub count_history-t-requires : goal.count_history-t-requires
count_history-t-requires c =
    let fine-here : let s = c in verdict (descent_rules (pair_of s.args.trees.now) every_node (told s.args.places.now s.args.labels.now)) ≡ accepted fine = sym c.in_ok-judge_rules.ensures in story_here c.requires fine-here

pub returns : goal.returns
returns c =
    let fine-here : let s = c in verdict (descent_rules (pair_of s.args.trees.now) every_node (told s.args.places.now s.args.labels.now)) ≡ accepted fine = sym c.in_ok-judge_rules.ensures in ap accepted (offer_counts_are (pair_of c.args.trees.now) (told c.args.places.now c.args.labels.now) (tallied_of c.count_history-t.result) c.count_history-t.ensures) ∙ sym (descent_accepted c.requires fine-here)
