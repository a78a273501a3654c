-- `counts::count_history`: the sums by the depths are the history's. Assumes nothing.
use Rattle.counts.specs.Sums.{steps_of}
use Rattle.counts.proofs.Adding.{story_addable, story_added}
use Rattle.counts.proofs.Tallying.{steps_edge, step_of, countable}
use borrow.Author.Rules.{rules}
use Rattle.counts.proofs.count_history.Goals as goal

pub add_up-requires : goal.add_up-requires
add_up-requires c =
    let Y = c.requires in
    let D = c.fill_depths.ensures in
    let s = steps_of c.fill_depths.new.depths c.args.trees.now.genes.parents.now c.args.places.now in
    (s, story_addable Y s (steps_edge Y D) _ _ (λ g l. let S = step_of (countable Y D) g.0 l in search rules) (λ g r l p. search rules))

pub returns : goal.returns
returns c =
    let Y = c.requires in
    let D = c.fill_depths.ensures in
    let s = steps_of c.fill_depths.new.depths c.args.trees.now.genes.parents.now c.args.places.now in
    story_added Y s (steps_edge Y D) _ (c.add_up.ensures s (story_addable Y s (steps_edge Y D) _ _ (λ g l. let S = step_of (countable Y D) g.0 l in search rules) (λ g r l p. search rules)))
