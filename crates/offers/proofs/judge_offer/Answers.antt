-- `offers::judge_offer`. Assumes nothing.
use mathlib.Core.Path.{◌≡◌, sym, ap, ◌∙◌}
use Rattle.trees.specs.Rulings.{verdict, accepted, refused_by, fine}
use Rattle.trees.specs.Tables.{pair_of}
use Rattle.trees.specs.Rules.{pair_rules}
use Rattle.trees.specs.Answers.{judged_of}
use Rattle.histories.proofs.Rooms.{short_places, short_labels}
use Rattle.offers.proofs.Descents.{offer_refused, offer_short, offer_descent, offerable}
use Rattle.std.proofs.lemmas.Result.{err_from_is_err_and}
use Rattle.offers.proofs.judge_offer.Goals as goal

pub returns-in_err-judge_pair : goal.returns-in_err-judge_pair
returns-in_err-judge_pair c =
    let p = err_from_is_err_and c.from_residual.result c.from_residual.ensures.1 in rw (p.1, p.2) (sym (offer_refused (pair_of c.args.trees.now) _ _ _ _ _ (sym c.in_err-judge_pair.ensures)))

pub returns-then-places-q : goal.returns-then-places-q
returns-then-places-q c =
    let fine-here : verdict (pair_rules (pair_of c.args.trees.now)) ≡ accepted fine = sym c.in_ok-judge_pair.ensures in let w = (pair_of c.args.trees.now) in ap refused_by c.refuse.ensures ∙ sym (offer_short w _ _ fine-here (short_places w _ _ c.if-places-q.true))

pub returns-then-labels-q : goal.returns-then-labels-q
returns-then-labels-q c =
    let fine-here : verdict (pair_rules (pair_of c.args.trees.now)) ≡ accepted fine = sym c.in_ok-judge_pair.ensures in let w = (pair_of c.args.trees.now) in ap refused_by c.refuse-then-labels-q.ensures ∙ sym (offer_short w _ _ fine-here (short_labels w _ _ c.if-places-q.false c.if-labels-q.true))

pub judge_descent-requires : goal.judge_descent-requires
judge_descent-requires c =
    let fine-here : verdict (pair_rules (pair_of c.args.trees.now)) ≡ accepted fine = sym c.in_ok-judge_pair.ensures in offerable (pair_of c.args.trees.now) _ _ fine-here c.if-places-q.false c.if-labels-q.false

pub returns : goal.returns
returns c =
    let fine-here : verdict (pair_rules (pair_of c.args.trees.now)) ≡ accepted fine = sym c.in_ok-judge_pair.ensures in c.judge_descent.ensures ∙ sym (offer_descent (pair_of c.args.trees.now) _ _ fine-here c.if-places-q.false c.if-labels-q.false)
