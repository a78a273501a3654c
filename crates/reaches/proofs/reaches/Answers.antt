-- `reaches::reaches`: what is left of the line tells what all of it would. Assumes nothing.
use native.Mathlib.Omega.{arith}
use mathlib.Core.Path.{sym, ◌∙◌}
use Rattle.trees.specs.Trees.{here}
use Rattle.roots.proofs.Ways.{reaching_yes, reaching_root, reaching_below, below_up, way_start, way_turn, way_end}
use borrow.Author.Rules.{rules}
use Rattle.reaches.proofs.reaches.Goals as goal

pub loop-init : goal.loop-init
loop-init c = (search rules, search rules, here (search rules), way_start _ _ _ (search rules))

pub returns-then-two_at-ne0 : goal.returns-then-two_at-ne0
returns-then-two_at-ne0 c = sym (reaching_yes c.requires.1 (reaching_below c.loop.invariant.2 (c.requires.2.known _ (search rules) (λ e. c.if-two_at-ne0.true (c.two_at.ensures ∙ e)))))

pub returns-then-n-u : goal.returns-then-n-u
returns-then-n-u c = sym (reaching_yes c.requires.1 (reaching_below c.loop.invariant.2 (reaching_root c.requires.1 _ (search rules) (search rules))))

pub loop-preserved : goal.loop-preserved
loop-preserved c = (search rules, search rules, below_up (search rules) (search rules) c.loop.invariant.2, c.loop.invariant.3 ∙ way_turn _ _ _ _ (search rules) (search rules) (omega (arith, c.requires.1.few)) (search rules))

pub returns : goal.returns
returns c = sym (c.loop.invariant.3 ∙ way_end _ _ _ (search rules))
