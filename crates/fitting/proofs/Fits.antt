-- Rule 8 at a node: what the quick test shows there. Assumes nothing.
use Prim.Native.Nat.{ℕ, ◌≤◌, ◌<◌}
use native.Mathlib.Omega.{arith}
use native.Mathlib.Decide.{ℕ_discrete}
use mathlib.Core.Path.{◌≡◌, sym}
use mathlib.Core.Bool.{true, false, beq}
use mathlib.Core.List.{List}
use lib.ListN.{get_or}
use mathlib.Core.Logic.{◌≢◌}
use lib.Dec.{T, eqb}
use borrow.Author.Tests.{eq-eqb, ne_eqb, lt-ltb, le-ltb}
use Rattle.trees.specs.Lists.{pick}
use Rattle.trees.specs.Tables.{taxon}
use Rattle.trees.proofs.Bools.{true_T}
use Rattle.fitting.specs.Tests.{fitting_by}
use Rattle.fitting.specs.Passes.{Matching}

pub fitting_matching : (p : ℕ) (gt pl lb : List ℕ) (g : ℕ) → get_or pl g 0 < p → get_or lb g 0 < 3 → Matching (get_or lb g 0) (get_or gt g 0) → T (fitting_by p gt pl lb g)
unfolding fitting_by pick
fitting_matching p gt pl lb g h s A =
    elim (ℕ_discrete (taxon gt g) 0) [
      | yes e ↦ elim (ℕ_discrete (get_or lb g 0) 1) [
        | yes k ↦ rw (lt-ltb (get_or pl g 0) p h, eq-eqb (taxon gt g) 0 e, eq-eqb (get_or lb g 0) 1 k) tt
        | no k ↦ elim (ℕ_discrete (get_or lb g 0) 0) [
          | yes z ↦ absurd (A.0 z e)
          | no z ↦ rw (lt-ltb (get_or pl g 0) p h, eq-eqb (taxon gt g) 0 e, ne_eqb (get_or lb g 0) 1 k, eq-eqb (get_or lb g 0) 2 (omega arith)) tt
        ]
      ]
      | no n ↦ elim (ℕ_discrete (get_or lb g 0) 0) [
        | yes z ↦ rw (lt-ltb (get_or pl g 0) p h, ne_eqb (taxon gt g) 0 n, eq-eqb (get_or lb g 0) 0 z) tt
        | no z ↦ absurd (n (A.1 z))
      ]
    ]
