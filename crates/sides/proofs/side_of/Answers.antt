-- `sides::side_of`: the side is the first node of what is left of the line whose parent is `above`. Assumes nothing.
use native.Mathlib.Omega.{arith}
use mathlib.Core.Path.{refl, sym, ◌∙◌}
use Rattle.trees.proofs.Depths.{depth_next}
use Rattle.sides.proofs.Climbing.{side_here, side_up, side_self, side_root}
use borrow.Author.Rules.{rules}
use Rattle.sides.proofs.side_of.Goals as goal

pub returns-then-s-a : goal.returns-then-s-a
returns-then-s-a c = rw c.if-s-a.true (side_self c.requires.0.1 _)

pub loop-n-init : goal.loop-n-init
loop-n-init c = (search rules, c.requires.0.1.few, search rules, refl)

pub overflow_cast-u : goal.overflow_cast-u
overflow_cast-u c = omega (arith, c.type_inv.species_parents c.loop-n.s)

pub returns-then-u-a : goal.returns-then-u-a
returns-then-u-a c = (search rules, side_here c.requires.0.1 _ _ (search rules) c.if-u-a.true ∙ sym c.loop-n.invariant.3)

pub returns-then-n-u : goal.returns-then-n-u
returns-then-n-u c = side_root c.requires.0.1 _ _ (search rules) c.if-u-a.false (search rules) ∙ sym c.loop-n.invariant.3

pub loop-n-smaller : goal.loop-n-smaller
loop-n-smaller c = omega (arith, depth_next c.requires.0.1 c.loop-n.s (search rules) (search rules))

pub loop-n-preserved : goal.loop-n-preserved
loop-n-preserved c = (search rules, search rules, search rules, c.loop-n.invariant.3 ∙ side_up c.requires.0.1 _ _ (search rules) c.if-u-a.false)
