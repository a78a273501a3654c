-- `trees::judge_each`: the nodes passed meet the test, whatever test the calls answer by. Assumes nothing.
use Rattle.std.proofs.Common.{ℕ, ◌<◌, ◌≡◌}
use mathlib.Core.Bool.{Bool}
use lib.Dec.{T}
use Rattle.trees.proofs.judge_each.Given as goal

abbrev pub invariant-loop-i : goal.invariant-loop-i
invariant-loop-i g l =
    (ok : ℕ → Bool) → ((i : ℕ) → i < l.n → (b : Bool) → goal.F-post g l.test i b → b ≡ ok i) → (k : ℕ) → k < l.i → T (ok k)
