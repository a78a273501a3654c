-- What the calls of this crate promise.
--   CostMeets dw lw ds ls r <-> r is the cost
--   LeastHistoryMeets w p l dw lw r p' l' <-> the answer r and the two tables as they are left are the outcome of the call
-- Assumes nothing.
use Rattle.std.specs.Prelude.{ℕ, ◌≡◌, List}
use Rattle.trees.specs.Tables.{Pair}
use Rattle.histories.specs.Histories.{cost}
use Rattle.histories.specs.Outcomes.{Outcome, least_outcome}
use Rattle.least.specs.Answers.{least_of}
use Rattle.least.specs.Answers.{LeastAnswer}

abbrev pub CostMeets : ℕ → ℕ → ℕ → ℕ → ℕ → Type 0
CostMeets dw lw ds ls r = r ≡ cost dw lw ds ls

abbrev pub LeastHistoryMeets : Pair → List ℕ → List ℕ → ℕ → ℕ → LeastAnswer → List ℕ → List ℕ → Type 0
LeastHistoryMeets w p l dw lw r p' l' = ◌≡◌ {A = Outcome} (record { answer = least_of r; places = p'; labels = l' }) (least_outcome w p l dw lw)
