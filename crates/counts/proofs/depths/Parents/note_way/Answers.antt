-- `counts::depths::Parents::note_way`: on the way up all that is noted is right. Assumes nothing.
use native.Mathlib.Omega.{arith}
use Rattle.counts.proofs.Deepening.{way_noted, way_deep, way_turn}
use borrow.Author.Rules.{rules}
use Rattle.counts.proofs.depths.Parents.note_way.Goals as goal

pub returns-then-n-u : goal.returns-then-n-u
returns-then-n-u c = rw (← c.self.view_is) (way_noted _ _ c.loop-depths.invariant.3)

pub overflow_sub-d : goal.overflow_sub-d
overflow_sub-d c = omega (arith, way_deep _ _ c.loop-depths.invariant.3 (search rules))

pub loop-depths-smaller : goal.loop-depths-smaller
loop-depths-smaller c = omega (arith, way_deep _ _ c.loop-depths.invariant.3 (search rules))

pub loop-depths-preserved : goal.loop-depths-preserved
loop-depths-preserved c = (search rules, search rules, search rules, way_turn _ _ c.loop-depths.invariant.3 (search rules))
