-- `orders::note_way`: what is left of the line tells what all of it would, and the way so far is noted. Assumes nothing.
use Prim.Native.Nat.{◌-◌, ◌<◌}
use mathlib.Core.Path.{◌≡◌}
use lib.ListN.{length}
use Rattle.trees.specs.Lists.{any}
use Rattle.trees.specs.Trees.{is_root, climb, Below}
use Rattle.trees.specs.Rules.{reaching}
use Rattle.orders.proofs.Noting.{Noting}
use Rattle.orders.proofs.note_way.Given as goal

abbrev pub invariant-loop-k : goal.invariant-loop-k
invariant-loop-k l = (l.x < length l.parents) × Below l.parents l.x l.node × (reaching l.parents l.node ≡ any (is_root l.parents) (climb l.parents (length l.parents - l.k) l.x)) × Noting l.parents l.way l.node l.x l.k
