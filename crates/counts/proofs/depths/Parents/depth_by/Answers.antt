-- `counts::depths::Parents::depth_by`: the node reached lies the counted steps above the first. Assumes nothing.
use Rattle.counts.proofs.Deepening.{upward_start, upward_turn, upward_nearer, upward_root}
use borrow.Author.Rules.{rules}
use Rattle.counts.proofs.depths.Parents.depth_by.Goals as goal

pub loop-x-init : goal.loop-x-init
loop-x-init c = let S = c.self.invariant.1 in let h = rw (← c.self.view_is) at c.requires.1 in (search rules, S.few, upward_start S _ h)

pub returns-then-n-u : goal.returns-then-n-u
returns-then-n-u c = rw (← c.self.view_is) (upward_root c.self.invariant.1 _ _ (search rules) c.loop-x.invariant.2)

pub loop-x-smaller : goal.loop-x-smaller
loop-x-smaller c = upward_nearer c.self.invariant.1 _ _ (search rules) c.loop-x.invariant.2

pub loop-x-preserved : goal.loop-x-preserved
loop-x-preserved c = (search rules, search rules, upward_turn c.self.invariant.1 _ _ (search rules) c.loop-x.invariant.2)
