-- Trees with one root: every node lies below it, and what the first node of a line that passes a test is. Assumes nothing.
use Prim.Native.Nat.{ℕ, zero, suc, ◌<◌}
use native.Mathlib.Omega.{arith}
use native.Mathlib.Decide.{ℕ_discrete}
use mathlib.Core.Logic.{inl, inr}
use mathlib.Core.Bool.{Bool}
use mathlib.Core.List.{List}
use lib.ListN.{length}
use lib.Dec.{T}
use Rattle.trees.specs.Lists.{first}
use Rattle.trees.specs.Trees.{none, up, line, Below, here, step}
use Rattle.trees.proofs.Bools.{test, T_true, true_T}
use Rattle.trees.proofs.Lists.{first_yes, first_no}
use Rattle.trees.proofs.Lines.{line_in}
use Rattle.trees.proofs.Kids.{Rooted}

module _ {par : List ℕ} (R : Rooted par) where
  root_fuel : (k x : ℕ) → x < length par → R.ground.rank x < k → Below par R.root x
  root_fuel zero x h l = absurd (omega arith)
  root_fuel (suc k) x h l =
      elim (ℕ_discrete x R.root) [
        | yes e ↦ rw e (here R.root_in)
        | no e ↦ let u = R.others x h e in step h (root_fuel k (up par x) u (omega (arith, R.ground.falls x h u)))
      ]

  pub all_root : (x : ℕ) → x < length par → Below par R.root x
  all_root x h = root_fuel (suc (R.ground.rank x)) x h (omega arith)

  -- the first on a line that passes a test: at or below any other that does
  pub first_line : (p : ℕ → Bool) {b s : ℕ} → Below par b s → T (p b) → T (p (first p (line par s) none)) × Below par b (first p (line par s) none)
  first_line p {b} (here l) t = rw (line_in R.ground b l, first_yes p b (line par (up par b)) none (T_true t)) (t, here l)
  first_line p {b} {s} (step l q) t =
      rw (line_in R.ground s l)
      (elim (test (p s)) [
        | inl e ↦ rw (first_yes p s (line par (up par s)) none e) (true_T e, step l q)
        | inr e ↦ rw (first_no p s (line par (up par s)) none e) (first_line p q t)
      ])
