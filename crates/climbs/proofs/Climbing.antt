-- One climb: each step up is one less of depth. Assumes nothing.
use Prim.Native.Nat.{ℕ, ◌+◌, ◌≤◌, ◌<◌}
use native.Mathlib.Omega.{arith}
use mathlib.Core.Path.{◌≡◌}
use mathlib.Core.Logic.{inl, inr, ◌≢◌}
use mathlib.Core.List.{List}
use lib.ListN.{length, get_or}
use Rattle.trees.specs.Lists.{one}
use Rattle.trees.specs.Trees.{up, Below, depth}
use Rattle.trees.proofs.Lines.{up_at, low_node, proper}
use Rattle.trees.proofs.Shape.{inner_count, depth_few}
use Rattle.trees.proofs.Sound.{rooted}
use Rattle.histories.specs.Histories.{every_node}
use Rattle.trees.proofs.Lines.{depth_up}
use Rattle.climbs.specs.Climbing.{steps, Climb}

-- on the way from low up to high, at `at`, after n steps
pub record Climbing (par : List ℕ) (low high at n : ℕ) : Type 0 where
  pub under : Below par high at
  pub passed : n + depth par every_node at ≡ depth par every_node low

module _ {par : List ℕ} {low high : ℕ} (C : Climb par low high) where
  pub climbing_start : Climbing par low high low 0
  climbing_start = record { under = C.under; passed = omega arith }

  -- no depth is over 1,023
  pub climb_few : {at n : ℕ} → Climbing par low high at n → n ≤ 1023
  climb_few K =
      let S = C.tree.1 in
      omega (arith, K.passed, depth_few (rooted S) S.two low (low_node C.under), inner_count (rooted S) S.two, S.few)

  module _ {at n : ℕ} (K : Climbing par low high at n) where
    pub climbing_in : at < length par
    climbing_in = low_node K.under

    module _ (e : at ≢ high) where
      above : Below par high (up par at)
      above = elim (proper K.under) [ inl z ↦ absurd (e z) | inr b ↦ b ]

      up_one : depth par every_node at ≡ 1 + depth par every_node (get_or par at 0)
      unfolding one
      up_one = rw (← up_at par at climbing_in) (depth_up (rooted C.tree.1).ground every_node at (low_node above))

      pub climbing_turn : Climbing par low high (get_or par at 0) (n + 1)
      climbing_turn = record { under = rw (up_at par at climbing_in) at above; passed = omega (arith, up_one, K.passed) }

      pub climbing_nearer : depth par every_node (get_or par at 0) < depth par every_node at
      climbing_nearer = omega (arith, up_one)

    pub climbing_end : at ≡ high → n ≡ steps par low high
    climbing_end e = let p : n + depth par every_node high ≡ depth par every_node low = rw e at K.passed in omega arith
