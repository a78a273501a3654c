-- The tests of rules 3 and 4 over the table of child counts are the rules' own. Assumes nothing.
use Prim.Native.Nat.{ℕ, ◌≤◌, ◌<◌}
use native.Mathlib.Omega.{arith}
use native.Mathlib.Decide.{ℕ_discrete}
use mathlib.Core.Path.{◌≡◌}
use mathlib.Core.Logic.{◌↔◌}
use mathlib.Core.Bool.{not}
use mathlib.Core.List.{List}
use lib.ListN.{length}
use lib.Dec.{T, eqb}
use borrow.Author.Tests.{eq-eqb, ne_eqb}
use mir.Val.{bool_byte}
use Rattle.trees.specs.Lists.{pick}
use Rattle.trees.specs.Trees.{kids, is_leaf}
use Rattle.trees.specs.Tables.{taxon}
use Rattle.trees.specs.Rules.{paired, marked}
use Rattle.shapes.specs.Counts.{is_paired, is_marked, paired_count, marked_count, wanted_count, ChildCounts}

module _ {par counts : List ℕ} (C : ChildCounts par counts) where
  pub paired_same : (i : ℕ) → i < length par → paired_count counts i ≡ paired par i
  unfolding paired_count is_paired paired
  paired_same i h = rw (C.count i h)

  pub marked_same : (tax : List ℕ) (i : ℕ) → i < length par → marked_count counts tax i ≡ marked par tax i
  unfolding marked_count is_marked marked is_leaf
  marked_same tax i h = rw (C.count i h)

-- a node with as many children as its taxon wants keeps rules 3 and 4
module _ (par tax : List ℕ) (i : ℕ) (e : length (kids par i) ≡ wanted_count (taxon tax i)) where
  pub wanted_paired : T (paired par i)
  unfolding paired wanted_count pick
  wanted_paired = elim (ℕ_discrete (taxon tax i) 0) [ yes z ↦ rw (e, eq-eqb (taxon tax i) 0 z) tt | no z ↦ rw (e, ne_eqb (taxon tax i) 0 z) tt ]

  pub wanted_marked : T (marked par tax i)
  unfolding marked is_leaf wanted_count pick
  wanted_marked = elim (ℕ_discrete (taxon tax i) 0) [ yes z ↦ rw (e, eq-eqb (taxon tax i) 0 z) tt | no z ↦ rw (e, ne_eqb (taxon tax i) 0 z) tt ]

-- 1 is counted exactly where two counts differ
pub unlike : (x y r : ℕ) → r ≡ bool_byte (not (eqb x y)) → (r ≤ 1) × ((r ≡ 0) ↔ (x ≡ y))
unlike x y r e =
    elim (ℕ_discrete x y) [
      | yes z ↦ let q : r ≡ 0 = rw (eq-eqb x y z) at e in (omega (arith, q), ((λ o. z), (λ o. q)))
      | no z ↦ let q : r ≡ 1 = rw (ne_eqb x y z) at e in (omega (arith, q), ((λ o. absurd (omega (arith, q, o))), (λ o. absurd (z o))))
    ]
