-- Runs of a list: of joined lists, and joined runs. Assumes nothing.
use Prim.Native.Nat.{ℕ, ◌+◌, ◌≤◌}
use native.Mathlib.Omega.{arith}
use mathlib.Core.Path.{◌≡◌, sym, ap, ◌∙◌}
use mathlib.Core.List.{List, [], ◌∷◌, ◌++◌}
use lib.ListN.{length, get_or, take, drop}
use lib.Seq.{take_at, drop_at, drop-drop, take-add}
use Rattle.blocks.specs.Blocks.{run}

-- the first list of those that stand from i on is a run, and the others stand behind it
pub cut : (l a r : List ℕ) (i k j : ℕ) → drop i l ≡ a ++ r → length a ≡ k → i + k ≡ j → (run i k l ≡ a) × (drop j l ≡ r)
cut l a r i k j e h f = (ap (take k) e ∙ take_at a r k h, rw (← f) (sym (drop-drop k i l) ∙ ap (drop k) e ∙ drop_at a r k h))

-- a run and the one behind it
pub run_add : (l : List ℕ) (i a b j : ℕ) → i + a ≡ j → run i a l ++ run j b l ≡ run i (a + b) l
run_add l i a b j e = rw (← e) (sym (take-add a b (drop i l) ∙ ap (λ m. take a (drop i l) ++ take b m) (drop-drop a i l)))

-- the first three entries, and a run behind them
pub run_three : (l : List ℕ) (n : ℕ) → 3 ≤ length l → get_or l 0 0 ∷ get_or l 1 0 ∷ get_or l 2 0 ∷ run 3 n l ≡ take (3 + n) l
run_three [] n h = absurd (omega arith)
run_three (x ∷ []) n h = absurd (omega arith)
run_three (x ∷ y ∷ []) n h = absurd (omega arith)
run_three (x ∷ y ∷ z ∷ l) n h = sym (take-add 3 n (x ∷ y ∷ z ∷ l))
