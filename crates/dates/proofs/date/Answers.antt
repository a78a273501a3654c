-- `dates::date`: dating by the tables that the fill leaves. Assumes nothing.
use mathlib.Core.Path.{◌≡◌, sym, ap, ◌∙◌}
use Rattle.trees.specs.Rulings.{verdict, accepted, refused_by, fine}
use Rattle.trees.specs.Tables.{pair_of}
use Rattle.trees.specs.Rules.{pair_rules}
use Rattle.trees.specs.Sound.{Sound}
use Rattle.trees.proofs.Soundness.{pair_accepted}
use Rattle.trees.specs.Answers.{judged_of}
use Rattle.dates.proofs.Outcomes.{filled_told, dating_refused, dating_19, dating_done}
use Rattle.std.proofs.lemmas.Result.{err_from_is_err_and}
use Rattle.dates.proofs.date.Goals as goal

pub returns-in_err-judge_pair : goal.returns-in_err-judge_pair
returns-in_err-judge_pair c =
    let p = err_from_is_err_and c.from_residual.result c.from_residual.ensures.1 in rw (p.1, p.2) (sym (dating_refused (pair_of c.args.trees.now) _ _ _ _ (sym c.in_err-judge_pair.ensures)))

pub returns-then-q-node : goal.returns-then-q-node
returns-then-q-node c =
    let fine-here : verdict (pair_rules (pair_of c.args.trees.now)) ≡ accepted fine = sym c.in_ok-judge_pair.ensures in ap refused_by c.refuse.ensures ∙ sym (dating_19 (pair_of c.args.trees.now) _ fine-here c.if-q-node.true)

pub fill-requires : goal.fill-requires
fill-requires c =
    let fine-here : verdict (pair_rules (pair_of c.args.trees.now)) ≡ accepted fine = sym c.in_ok-judge_pair.ensures in
    let sound-here : Sound (pair_of c.args.trees.now) = (pair_accepted (pair_of c.args.trees.now)).0 fine-here in let s = sound-here in record { sound = s; places_room = s.genes.few; labels_room = s.genes.few }

pub date_by-requires : goal.date_by-requires
date_by-requires c =
    let fine-here : verdict (pair_rules (pair_of c.args.trees.now)) ≡ accepted fine = sym c.in_ok-judge_pair.ensures in
    let sound-here : Sound (pair_of c.args.trees.now) = (pair_accepted (pair_of c.args.trees.now)).0 fine-here in
    let s = sound-here in
    record {
      tree = (c.args.trees.now.genes.taxa.now, s.genes);
      inside = c.if-q-node.false;
      places_room = rw c.fill.auto.places s.genes.few;
      labels_room = rw c.fill.auto.labels s.genes.few;
    }

pub returns : goal.returns
returns c =
    let fine-here : verdict (pair_rules (pair_of c.args.trees.now)) ≡ accepted fine = sym c.in_ok-judge_pair.ensures in
    let sound-here : Sound (pair_of c.args.trees.now) = (pair_accepted (pair_of c.args.trees.now)).0 fine-here in
    let w = (pair_of c.args.trees.now) in
    ap accepted (c.date_by.ensures w (filled_told sound-here c.fill.ensures)) ∙ sym (dating_done w _ fine-here c.if-q-node.false)
