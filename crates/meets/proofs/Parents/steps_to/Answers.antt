-- `meets::Parents::steps_to`: the node reached lies the counted steps above the first. Assumes nothing.
use Rattle.meets.proofs.Joins.{risen_start, risen_turn}
use borrow.Author.Rules.{rules}
use Rattle.meets.proofs.Parents.steps_to.Goals as goal

pub loop-k-init : goal.loop-k-init
loop-k-init c = let h = rw (← c.self.view_is) at c.requires.0 in (search rules, search rules, risen_start _ h)

pub loop-k-preserved : goal.loop-k-preserved
loop-k-preserved c = (search rules, search rules, risen_turn c.self.invariant.1 _ _ (search rules) c.loop-k.invariant.2)
