-- A search for the lowest that fails, as a loop makes it. Assumes nothing.
use Rattle.std.proofs.Common.{◌≡◌, ℕ, ◌+◌, ◌<◌, ◌≤◌, Bool, false, T, sym, arith, below_more}
use Rattle.trees.specs.Lists.{lowest}
use Rattle.trees.specs.Spots.{spot, nowhere, lowest_spot}
use Rattle.trees.proofs.Lists.{lowest_is, lowest_none}
use Rattle.trees.proofs.Spots.{spot_found, spot_none}

-- all below k pass
pub record Passed (ok : ℕ → Bool) (n k : ℕ) : Type 0 where
  pub low : k ≤ n
  pub pass : (j : ℕ) → j < k → T (ok j)

module _ (ok : ℕ → Bool) (n : ℕ) where
  pub passed_none : Passed ok n 0
  passed_none = record { low = omega arith; pass = λ j h. absurd (omega arith) }

  pub passed_more : (k : ℕ) → Passed ok n k → k < n → T (ok k) → Passed ok n (k + 1)
  passed_more k p h t = record { low = omega arith; pass = below_more (λ j. T (ok j)) k p.pass t }

  pub passed_fails : (k : ℕ) → Passed ok n k → k < n → ok k ≡ false → k ≡ lowest ok n
  passed_fails k p h e = sym (lowest_is ok n k h e p.pass)

  -- the same, where what is found is a spot
  pub passed_spot : (k : ℕ) → Passed ok n k → k < n → ok k ≡ false → spot k ≡ lowest_spot ok n
  passed_spot k p h e = sym (spot_found ok n k (passed_fails k p h e) h)

  pub passed_nowhere : (k : ℕ) → Passed ok n k → n ≤ k → nowhere ≡ lowest_spot ok n
  passed_nowhere k p h = sym (spot_none ok n (lowest_none ok n (λ j b. p.pass j (omega arith))))

  pub passed_all : (k : ℕ) → Passed ok n k → n ≤ k → n ≡ lowest ok n
  passed_all k p h = sym (lowest_none ok n (λ j b. p.pass j (omega arith)))
