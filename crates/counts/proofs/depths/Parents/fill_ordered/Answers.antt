-- `counts::depths::Parents::fill_ordered`: the depths of the nodes passed stand. Assumes nothing.
use Prim.Native.Nat.{◌≤◌, ◌<◌}
use native.Mathlib.Omega.{arith}
use lib.ListN.{get_or}
use Rattle.counts.proofs.Deepening.{first_parent, deepening_start, deepening_turn, deep_small}
use borrow.Author.Rules.{rules}
use Rattle.counts.proofs.depths.Parents.fill_ordered.Goals as goal

pub loop-i-init : goal.loop-i-init
loop-i-init c = (search rules, deepening_start c.self.invariant.1 (rw (← c.self.view_is) at c.requires.1) c.args.depths.now c.requires.0)

pub bounds-depths-u : goal.bounds-depths-u
bounds-depths-u c =
    let inside : get_or c.self.inside.table.now c.loop-i.i 0 < c.loop-i.i = let s = c in first_parent s.self.invariant.1 (rw (← s.self.view_is) at s.requires.1) _ (search rules) (search rules) in omega (arith, inside, c.loop-i.invariant.1.size, c.self.invariant.1.few)

pub overflow_add-depths : goal.overflow_add-depths
overflow_add-depths c =
    let small : get_or c.loop-i.depths (get_or c.self.inside.table.now c.loop-i.i 0) 0 ≤ 1023 = let s = c in deep_small s.self.invariant.1 (rw (← s.self.view_is) at s.requires.1) _ _ (search rules) (search rules) c.loop-i.invariant.1 in omega (arith, small)

pub loop-i-preserved : goal.loop-i-preserved
loop-i-preserved c = let s = c in (search rules, deepening_turn s.self.invariant.1 (rw (← s.self.view_is) at s.requires.1) _ _ (search rules) (search rules) c.loop-i.invariant.1)
