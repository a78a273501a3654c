-- `reaches::judge_reaching`: the nodes passed reach the root. Assumes nothing.
use Prim.Native.Nat.{ℕ, ◌<◌}
use mathlib.Core.Path.{◌≡◌}
use lib.ListN.{length}
use lib.Dec.{T}
use Rattle.trees.specs.Rules.{reaching}
use Rattle.reaches.specs.Knowing.{Knowing}
use Rattle.reaches.proofs.judge_reaching.Given as goal

abbrev pub invariant-loop-i : goal.invariant-loop-i
invariant-loop-i l = (l.n ≡ length l.parents) × Knowing l.parents l.marks × ((k : ℕ) → k < l.i → T (reaching l.parents k))
