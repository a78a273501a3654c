-- `meets::Parents::join_ordered`: where the two meet now is where they met at first. Assumes nothing.
use native.Mathlib.Omega.{arith}
use Rattle.trees.proofs.Meets.{meet_self, meet_swap}
use Rattle.meets.proofs.Joins.{Turn, turn}
use borrow.Author.Rules.{rules}
use Rattle.meets.proofs.Parents.join_ordered.Goals as goal

pub loop-x-smaller-then-y-x : goal.loop-x-smaller-then-y-x
loop-x-smaller-then-y-x c =
    let left : Turn c.self.inside.table.now c.loop-x.x c.loop-x.y = turn c.self.invariant.1 (rw (← c.self.view_is) at c.requires.2) _ _ (search rules) (search rules) in omega (arith, left.falls)

pub loop-x-preserved-then-y-x : goal.loop-x-preserved-then-y-x
loop-x-preserved-then-y-x c =
    let left : Turn c.self.inside.table.now c.loop-x.x c.loop-x.y = turn c.self.invariant.1 (rw (← c.self.view_is) at c.requires.2) _ _ (search rules) (search rules) in (omega (arith, left.falls), search rules, λ m M. c.loop-x.invariant.2 m (left.meets m M))

pub loop-x-smaller : goal.loop-x-smaller
loop-x-smaller c =
    let right : Turn c.self.inside.table.now c.loop-x.y c.loop-x.x = turn c.self.invariant.1 (rw (← c.self.view_is) at c.requires.2) _ _ (search rules) (omega arith) in omega (arith, right.falls)

pub loop-x-preserved : goal.loop-x-preserved
loop-x-preserved c =
    let right : Turn c.self.inside.table.now c.loop-x.y c.loop-x.x = turn c.self.invariant.1 (rw (← c.self.view_is) at c.requires.2) _ _ (search rules) (omega arith) in (search rules, omega (arith, right.falls), λ m M. c.loop-x.invariant.2 m (meet_swap (right.meets m (meet_swap M))))

pub returns : goal.returns
returns c = rw (← c.self.view_is) (c.loop-x.invariant.2 c.loop-x.x (rw c.loop-x-test.false (meet_self c.loop-x.invariant.1)))
