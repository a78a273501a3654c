-- `sides::judge_nested`: the children passed are nested, and their sides are known. Assumes nothing.
use Rattle.sides.proofs.Steps.{nested_start, nested_visiting, nested_turn, nested_found, nested_end}
use borrow.Author.Rules.{rules}
use Rattle.sides.proofs.judge_nested.Goals as goal

pub loop-c-init : goal.loop-c-init
loop-c-init c = nested_start c.requires

pub visit-requires : goal.visit-requires
visit-requires c = nested_visiting c.requires c.loop-c.invariant (search rules)

pub loop-c-preserved : goal.loop-c-preserved
loop-c-preserved c = nested_turn c.requires c.loop-c.invariant _ _ (search rules) c.visit.ensures c.if-not-visit.false

pub returns-then-not-visit : goal.returns-then-not-visit
returns-then-not-visit c = nested_found c.requires c.loop-c.invariant _ _ _ (search rules) c.visit.ensures c.if-not-visit.true c.refuse.ensures

pub returns : goal.returns
returns c = nested_end c.requires c.loop-c.invariant (search rules)
