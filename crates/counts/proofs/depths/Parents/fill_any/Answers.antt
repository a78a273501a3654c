-- `counts::depths::Parents::fill_any`: the depths of the nodes passed are known. Assumes nothing.
use Rattle.counts.proofs.Deepening.{knowing_start}
use borrow.Author.Rules.{rules}
use Rattle.counts.proofs.depths.Parents.fill_any.Goals as goal

pub loop-i-init : goal.loop-i-init
loop-i-init c = (search rules, knowing_start (rw c.self.view_is at c.self.invariant) c.requires)
