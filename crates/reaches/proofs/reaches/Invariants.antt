-- `reaches::reaches`: what is left of the line tells what all of it would. Assumes nothing.
use Prim.Native.Nat.{◌-◌, ◌<◌}
use mathlib.Core.Path.{◌≡◌}
use lib.ListN.{length}
use Rattle.trees.specs.Lists.{any}
use Rattle.trees.specs.Trees.{is_root, climb, Below}
use Rattle.trees.specs.Rules.{reaching}
use Rattle.reaches.proofs.reaches.Given as goal

abbrev pub invariant-loop : goal.invariant-loop
invariant-loop l = (l.n ≡ length l.parents) × (l.x < l.n) × Below l.parents l.x l.node × (reaching l.parents l.node ≡ any (is_root l.parents) (climb l.parents (l.n - l.counter) l.x))
