-- `roots::judge_parents`: the nodes passed obey rule 2, and it is known whether one is a root. Assumes nothing.
use Prim.Native.Nat.{ℕ, ◌≤◌, ◌<◌}
use mathlib.Core.Path.{◌≡◌}
use lib.ListN.{length}
use lib.Dec.{T}
use Rattle.trees.specs.Lists.{range, any}
use Rattle.trees.specs.Trees.{is_root}
use Rattle.trees.specs.Rules.{parented}
use Rattle.roots.proofs.judge_parents.Given as goal

abbrev pub invariant-loop-i : goal.invariant-loop-i
invariant-loop-i l = (l.n ≡ length l.parents) × (l.i ≤ l.n) × (l.seen ≡ any (is_root l.parents) (range 0 l.i)) × ((k : ℕ) → k < l.i → T (parented l.parents k))
