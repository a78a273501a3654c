-- `meets::Parents::go_up`: the node reached lies the counted steps above the first. Assumes nothing.
use Rattle.meets.proofs.Joins.{risen_start, risen_turn, gone_root}
use borrow.Author.Rules.{rules}
use Rattle.meets.proofs.Parents.go_up.Goals as goal

pub loop-steps-init : goal.loop-steps-init
loop-steps-init c = let h = rw (← c.self.view_is) at c.requires in (search rules, search rules, risen_start _ h)

pub returns-then-n-u : goal.returns-then-n-u
returns-then-n-u c = rw (← c.self.view_is) (gone_root c.self.invariant.1 _ _ (search rules) (search rules) c.loop-steps.invariant.2)

pub loop-steps-preserved : goal.loop-steps-preserved
loop-steps-preserved c = (search rules, search rules, risen_turn c.self.invariant.1 _ _ (search rules) c.loop-steps.invariant.2)
