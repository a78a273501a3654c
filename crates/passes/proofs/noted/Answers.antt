-- `passes::noted`. Assumes nothing.
use Rattle.trees.specs.Lists.{pick}
use Rattle.passes.proofs.noted.Goals as goal

pub returns-then-right : goal.returns-then-right
unfolding pick
returns-then-right c = rw c.if-right.true

pub returns-else-right : goal.returns-else-right
unfolding pick
returns-else-right c = rw c.if-right.false
