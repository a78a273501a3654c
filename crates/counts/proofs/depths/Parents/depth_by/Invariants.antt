-- `counts::depths::Parents::depth_by`: the node reached lies the counted steps above the first. Assumes nothing.
use Prim.Native.Nat.{◌≤◌}
use mathlib.Core.Path.{◌≡◌}
use lib.ListN.{length}
use Rattle.trees.specs.Trees.{depth}
use Rattle.histories.specs.Histories.{every_node}
use Rattle.counts.proofs.Deepening.{Upward}
use Rattle.counts.proofs.depths.Parents.depth_by.Given as goal

abbrev pub invariant-loop-x : goal.invariant-loop-x
invariant-loop-x l = (l.n ≡ length l.parents) × (l.n ≤ 2047) × Upward l.parents l.initial.x l.x l.k

abbrev pub decreases-loop-x : goal.decreases-loop-x
decreases-loop-x l = depth l.parents every_node l.x
