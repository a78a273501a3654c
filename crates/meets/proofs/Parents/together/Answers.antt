-- `meets::Parents::together`: the two stay equally deep, and where they meet now is where they met at first. Assumes nothing.
use Rattle.trees.proofs.Meets.{meet_self}
use Rattle.meets.proofs.Joins.{level_falls, level_turn, level_meet}
use Rattle.meets.proofs.Parents.together.Goals as goal

pub loop-x-smaller : goal.loop-x-smaller
loop-x-smaller c = level_falls c.self.invariant.1 c.loop-x-test.true c.loop-x.invariant.0

pub loop-x-preserved : goal.loop-x-preserved
loop-x-preserved c = let S = c.self.invariant.1 in let l = c.loop-x in (level_turn S c.loop-x-test.true l.invariant.0, λ m M. l.invariant.1 m (level_meet S c.loop-x-test.true l.invariant.0 M))

pub returns : goal.returns
returns c = rw (← c.self.view_is) (c.loop-x.invariant.1 c.loop-x.y (rw c.loop-x-test.false (meet_self c.loop-x.invariant.0.right_in)))
