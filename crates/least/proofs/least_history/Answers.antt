-- `least::least_history`: each way out is the outcome of its rule. Assumes nothing.
use Prim.Native.Nat.{ℕ}
use mathlib.Core.List.{List}
use mathlib.Core.Path.{◌≡◌, sym, ap, ◌∙◌}
use Rattle.trees.specs.Rulings.{verdict, accepted, refused_by, fine}
use Rattle.trees.specs.Tables.{pair_of}
use Rattle.trees.specs.Rules.{pair_rules}
use Rattle.trees.specs.Sound.{Sound}
use Rattle.trees.specs.declared.Refusal.{Refusal}
use Rattle.trees.proofs.Soundness.{pair_accepted}
use Rattle.trees.specs.Answers.{judged_of}
use Rattle.histories.proofs.Rooms.{short_places, short_labels}
use Rattle.counts.specs.Tallies.{tallied_of}
use Rattle.histories.specs.Outcomes.{Outcome}
use Rattle.least.proofs.Outcomes.{filled_places, filled_labels, filled_story, filled_tally, least_refused, least_short, least_done, counts_from}
use Rattle.std.proofs.lemmas.Result.{err_from_is_err_and}
use Rattle.least.proofs.least_history.Goals as goal

-- what a refusal leaves
abbrev left_alone : List ℕ → List ℕ → Refusal → Outcome
left_alone places labels r = record { answer = refused_by r; places = places; labels = labels }

pub returns-in_err-judge_pair : goal.returns-in_err-judge_pair
returns-in_err-judge_pair c =
    let p = err_from_is_err_and c.from_residual.result c.from_residual.ensures.1 in rw (p.1, p.2) (least_refused (pair_of c.args.trees.now) _ _ _ _ _ _ _ (sym c.in_err-judge_pair.ensures))

pub returns-then-places-q : goal.returns-then-places-q
returns-then-places-q c =
    let fine-here : verdict (pair_rules (pair_of c.args.trees.now)) ≡ accepted fine = sym c.in_ok-judge_pair.ensures in ap (λ r. left_alone c.args.places.now c.args.labels.now r) c.refuse.ensures ∙ least_short (pair_of c.args.trees.now) _ _ _ _ fine-here (short_places (pair_of c.args.trees.now) _ _ c.if-places-q.true)

pub returns-then-labels-q : goal.returns-then-labels-q
returns-then-labels-q c =
    let fine-here : verdict (pair_rules (pair_of c.args.trees.now)) ≡ accepted fine = sym c.in_ok-judge_pair.ensures in ap (λ r. left_alone c.args.places.now c.args.labels.now r) c.refuse-then-labels-q.ensures ∙ least_short (pair_of c.args.trees.now) _ _ _ _ fine-here (short_labels (pair_of c.args.trees.now) _ _ c.if-places-q.false c.if-labels-q.true)

pub fill-requires : goal.fill-requires
fill-requires c =
    let fine-here : verdict (pair_rules (pair_of c.args.trees.now)) ≡ accepted fine = sym c.in_ok-judge_pair.ensures in
    let sound-here : Sound (pair_of c.args.trees.now) = (pair_accepted (pair_of c.args.trees.now)).0 fine-here in record { sound = sound-here; places_room = c.if-places-q.false; labels_room = c.if-labels-q.false }

pub count_climbs-t-requires : goal.count_climbs-t-requires
count_climbs-t-requires c =
    let fine-here : verdict (pair_rules (pair_of c.args.trees.now)) ≡ accepted fine = sym c.in_ok-judge_pair.ensures in
    let sound-here : Sound (pair_of c.args.trees.now) = (pair_accepted (pair_of c.args.trees.now)).0 fine-here in filled_story sound-here c.fill.ensures c.if-places-q.false c.if-labels-q.false

pub shape_of-places : goal.shape_of-places
shape_of-places c =
    let fine-here : verdict (pair_rules (pair_of c.args.trees.now)) ≡ accepted fine = sym c.in_ok-judge_pair.ensures in
    let sound-here : Sound (pair_of c.args.trees.now) = (pair_accepted (pair_of c.args.trees.now)).0 fine-here in filled_places sound-here c.fill.ensures c.if-places-q.false

pub shape_of-labels : goal.shape_of-labels
shape_of-labels c =
    let fine-here : verdict (pair_rules (pair_of c.args.trees.now)) ≡ accepted fine = sym c.in_ok-judge_pair.ensures in
    let sound-here : Sound (pair_of c.args.trees.now) = (pair_accepted (pair_of c.args.trees.now)).0 fine-here in filled_labels sound-here c.fill.ensures c.if-labels-q.false

pub returns : goal.returns
returns c =
    let fine-here : verdict (pair_rules (pair_of c.args.trees.now)) ≡ accepted fine = sym c.in_ok-judge_pair.ensures in
    let sound-here : Sound (pair_of c.args.trees.now) = (pair_accepted (pair_of c.args.trees.now)).0 fine-here in least_done (pair_of c.args.trees.now) _ _ c.args.dw c.args.lw fine-here _ _ _ c.fill.ensures c.if-places-q.false c.if-labels-q.false (counts_from (pair_of c.args.trees.now) _ _ (tallied_of c.count_climbs-t.result) _ (c.count_climbs-t.ensures ∙ filled_tally sound-here c.fill.ensures) c.cost.ensures)
