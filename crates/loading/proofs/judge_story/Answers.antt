-- `judge_story` meets its contract: the gene rules, then the rules of descent. Assumes nothing.
use native.Mathlib.Omega.{arith}
use mathlib.Core.Path.{◌≡◌, sym, ap, ◌∙◌}
use Rattle.trees.specs.Rulings.{verdict, accepted, fine}
use Rattle.trees.specs.Rules.{family_rules}
use Rattle.trees.specs.Tables.{pair_of}
use Rattle.trees.specs.Answers.{judged_of}
use Rattle.homes.proofs.Homes.{housed_homed}
use Rattle.judges.proofs.Leaves.{homed_known}
use Rattle.loading.proofs.Stories.{story_trees, story_descent, story_sound}
use Rattle.std.proofs.lemmas.Result.{err_from_is_err_and}
use Rattle.loading.proofs.judge_story.Goals as goal

pub judge_family-requires : goal.judge_family-requires
judge_family-requires c = (c.requires.rack, c.requires.sized, λ t. homed_known (housed_homed (c.all_homed-homed.ensures.0 t)))

pub returns-in_err-judge_family : goal.returns-in_err-judge_family
returns-in_err-judge_family c =
    let p = err_from_is_err_and c.from_residual.result c.from_residual.ensures.1 in rw (p.1, p.2) (sym (story_trees (pair_of c.args.trees.now) _ _ _ _ _ (sym c.in_err-judge_family.ensures)))

pub judge_descent-requires : goal.judge_descent-requires
judge_descent-requires c =
    let trees_fine : verdict (family_rules (pair_of c.args.trees.now)) ≡ accepted fine = sym c.in_ok-judge_family.ensures in
    record { sound = story_sound _ _ _ c.requires trees_fine; places_room = omega (arith, c.requires.even); labels_room = omega (arith, c.requires.even) }

pub returns : goal.returns
returns c =
    let trees_fine : verdict (family_rules (pair_of c.args.trees.now)) ≡ accepted fine = sym c.in_ok-judge_family.ensures in
    c.judge_descent.ensures ∙ sym (story_descent (pair_of c.args.trees.now) _ _ trees_fine)
