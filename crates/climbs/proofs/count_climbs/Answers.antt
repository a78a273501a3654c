-- `climbs::count_climbs`: the sums by climbing are the history's. Assumes nothing.
use Rattle.counts.proofs.Adding.{story_addable, story_added}
use Rattle.climbs.specs.Climbing.{steps_of}
use Rattle.climbs.proofs.Counting.{steps_edge, climbable}
use borrow.Author.Rules.{rules}
use Rattle.climbs.proofs.count_climbs.Goals as goal

pub add_up-tally-requires : goal.add_up-tally-requires
add_up-tally-requires c =
    let Y = c.requires in
    let s = steps_of c.args.trees.now.species.parents.now c.args.trees.now.genes.parents.now c.args.places.now in
    (s, story_addable Y s (steps_edge Y) _ _ (λ g l. let C = climbable Y in search rules) (λ g r l p. search rules))

pub returns : goal.returns
returns c =
    let Y = c.requires in
    let s = steps_of c.args.trees.now.species.parents.now c.args.trees.now.genes.parents.now c.args.places.now in
    story_added Y s (steps_edge Y) _ (c.add_up-tally.ensures s (story_addable Y s (steps_edge Y) _ _ (λ g l. let C = climbable Y in search rules) (λ g r l p. search rules)))
