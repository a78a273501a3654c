-- `nesting::positions::Positions::share_runs`: the nodes from i on have their part of their parent's run. Assumes nothing.
use Prim.Native.Nat.{◌-◌}
use native.Mathlib.Omega.{arith}
use Rattle.nesting.proofs.Runs.{shared_start, shared_fits, shared_turn}
use borrow.Author.Rules.{rules}
use Rattle.nesting.proofs.positions.Positions.share_runs.Goals as goal

pub loop-i-init : goal.loop-i-init
loop-i-init g c = (c.requires.tree.1.some, shared_start c.requires)

pub overflow_add-self : goal.overflow_add-self
overflow_add-self g c = omega (arith, shared_fits c.requires.tree.1 c.requires.first (c.loop-i.i - 1) (search rules) (search rules) (search rules) c.loop-i.invariant.1)

pub loop-i-preserved : goal.loop-i-preserved
loop-i-preserved g c = (search rules, shared_turn c.requires.tree.1 c.requires.first (c.loop-i.i - 1) (search rules) (search rules) (search rules) c.loop-i.invariant.1)
