-- Tables with parents first obey rules 2 and 38, and their numbers fall on the way up. Assumes nothing.
use Prim.Native.Nat.{ℕ, zero, suc, ◌≤◌, ◌<◌}
use native.Mathlib.Omega.{arith}
use native.Mathlib.Decide.{ℕ_discrete}
use mathlib.Core.Path.{ap}
use mathlib.Core.List.{List}
use lib.ListN.{length}
use Rattle.trees.specs.Trees.{none, up, Below, here, step}
use Rattle.trees.specs.First.{ParentsFirst}
use Rattle.trees.specs.Rulings.{whole, each, Passes, Every, done, and}
use Rattle.trees.specs.Rules.{parented, topped, reaching, root_rules}
use Rattle.trees.proofs.Lines.{low_node}
use Rattle.trees.proofs.Reach.{reaching_is}
use Rattle.trees.proofs.Soundness.{Topped, is_root_top, is_parented, is_topped}

module _ {par : List ℕ} (F : ParentsFirst par) (some : 1 ≤ length par) (few : length par ≤ 2047) where
  first_below : (k x : ℕ) → x < k → x < length par → Below par 0 x
  first_below zero x l h = absurd (omega arith)
  first_below (suc k) x l h =
      elim (ℕ_discrete x 0) [
        | yes e ↦ rw e (here some)
        | no n ↦ let u = F.order x (omega arith) h in step h (first_below k (up par x) (omega arith) (omega arith))
      ]

  first_topped : Topped par
  first_topped =
      record {
        root = 0;
        root_in = some;
        root_up = F.top;
        others = λ i h n. omega (arith, F.order i (omega arith) h);
      }

  pub first_passes : (t : ℕ) → Every Passes (root_rules t par)
  unfolding root_rules
  first_passes t =
      and {r = each 2 t (length par) (parented par)} (is_parented par first_topped (omega arith))
      (and {r = whole 2 t none (topped par)} (is_topped par first_topped)
      (and {r = each 38 t (length par) (reaching par)}
      (λ x h. (reaching_is par (omega arith) x).1 (0, is_root_top par 0 F.top, first_below (suc x) x (omega arith) h))
      done))

-- what is above has no higher number
pub first_over : {par : List ℕ} → ParentsFirst par → length par ≤ 2047 → {a x : ℕ} → Below par a x → a ≤ x
first_over F few (here l) = omega arith
first_over {par} F few (step {x = x} l p) =
    elim (ℕ_discrete x 0) [
      | yes e ↦ absurd (omega (arith, F.top, ap (up par) e, low_node p))
      | no n ↦ omega (arith, F.order x (omega arith) l, first_over F few p)
    ]
