-- The steps of the searches, each as one law over plain tables. Assumes nothing.
use Rattle.std.specs.Prelude.{Ok, Err, Some, None, Option}
use Prim.Native.Nat.{ℕ, ◌+◌, ◌≤◌, ◌<◌}
use native.Mathlib.Omega.{arith}
use mathlib.Core.Path.{◌≡◌, sym, ap, ◌∙◌}
use mathlib.Core.Bool.{Bool, true, false, ◌||◌, not}
use mathlib.Core.List.{List}
use lib.ListN.{length, get_or, set}
use lib.Dec.{T, eqb}
use borrow.Author.Tests.{eq-eqb, ne_eqb, lt-ltb, le-ltb, not-true, not-false}
use borrow.Author.Count.{below_none, below_more}
use Rattle.trees.specs.Lists.{pick}
use Rattle.trees.specs.Trees.{none}
use Rattle.trees.proofs.Bools.{true_T}
use Rattle.trees.specs.Rulings.{refused_by}
use Rattle.trees.specs.declared.Refusal.{Refusal}
use Rattle.trees.specs.declared.SpeciesNode.{SpeciesNode}
use Rattle.trees.proofs.Rulings.{one_refused, one_passed, refused_not}
use Rattle.sides.specs.Tests.{side_of, nested_by}
use Rattle.sides.specs.Visits.{merged, SideBy, has_side, side_entry, SmallSide, Seen, Visiting, Visited, Nesting, Nested}
use Rattle.sides.proofs.Climbing.{seen_start, seen_turn, seen_root}

-- ---- rule 10 at one node

-- a side that was looked for, as it stands in the table
module _ (sp : List ℕ) (a x : ℕ) where
  entry_is : (r : Option SpeciesNode) → SideBy sp a x r → side_entry r ≡ side_of sp a x
  entry_is (Some s) e = e.1
  entry_is None e = e

  module _ (few : length sp ≤ 2047) where
    found_is : (r : Option SpeciesNode) → SideBy sp a x r → has_side r ≡ not (eqb (side_of sp a x) none)
    found_is (Some s) e = rw (ne_eqb (side_of sp a x) none (omega (arith, e.0, e.1)))
    found_is None e = rw (eq-eqb (side_of sp a x) none (sym e))

    small_is : (r : Option SpeciesNode) → SideBy sp a x r → SmallSide r
    small_is (Some s) e = λ t. omega (arith, e.0)
    small_is None e = λ t. absurd t

module _ {sp gp pl sides : List ℕ} {c : ℕ} (X : Visiting sp gp pl c sides) where
  pub visit_root : length gp ≤ get_or gp c 0 → Visited sp gp pl c sides true
  unfolding nested_by pick
  visit_root b =
      record { test = rw (le-ltb (get_or gp c 0) (length gp) b); seen = λ t. seen_root sp gp pl c sides X.inside b X.seen }

  module _ (b : get_or gp c 0 < length gp) (r : Option SpeciesNode) (e : SideBy sp (get_or pl (get_or gp c 0) 0) (get_or pl c 0) r) where
    abbrev side : ℕ
    side = side_of sp (get_or pl (get_or gp c 0) 0) (get_or pl c 0)

    nested_at : (k : Bool) → k ≡ (eqb (get_or pl c 0) (get_or pl (get_or gp c 0) 0) || has_side r) → k ≡ nested_by sp gp pl c
    unfolding nested_by pick
    nested_at k q = rw (lt-ltb (get_or gp c 0) (length gp) b) (q ∙ ap (λ x. eqb (get_or pl c 0) (get_or pl (get_or gp c 0) 0) || x) (found_is sp (get_or pl (get_or gp c 0) 0) (get_or pl c 0) X.tree.1.few r e))

    pub side_small : SmallSide r
    side_small = small_is sp (get_or pl (get_or gp c 0) 0) (get_or pl c 0) X.tree.1.few r e

    pub visit_out : (k : Bool) → k ≡ (eqb (get_or pl c 0) (get_or pl (get_or gp c 0) 0) || has_side r) → not k ≡ true → Visited sp gp pl c sides false
    visit_out k q n = record { test = sym (not-true k n) ∙ nested_at k q; seen = λ t. absurd t }

    pub visit_in : (k : Bool) (m : ℕ) → k ≡ (eqb (get_or pl c 0) (get_or pl (get_or gp c 0) 0) || has_side r) → not k ≡ false
        → m ≡ merged (get_or sides (get_or gp c 0) 0) (side_entry r) → Visited sp gp pl c (set sides (get_or gp c 0) m) true
    visit_in k m q n f =
        record {
          test = sym (not-false k n) ∙ nested_at k q;
          seen = λ t. rw (f, entry_is sp (get_or pl (get_or gp c 0) 0) (get_or pl c 0) r e) (seen_turn sp gp pl c sides X.few X.inside b X.seen);
        }

-- ---- the search of rule 10

-- the children passed are nested, and what is known of their parents stands
pub record NestedTo (sp gp pl : List ℕ) (c : ℕ) (sides : List ℕ) : Type 0 where
  pub inside : c ≤ length gp
  pub nested : (k : ℕ) → k < c → T (nested_by sp gp pl k)
  pub seen : Seen sp gp pl c sides

module _ {sp gp pl sides₀ : List ℕ} (N : Nesting sp gp pl sides₀) where
  pub nested_start : NestedTo sp gp pl 0 sides₀
  nested_start = record { inside = omega arith; nested = below_none _; seen = rw N.fresh (seen_start sp gp pl N.few) }

  module _ {c : ℕ} {sides : List ℕ} (P : NestedTo sp gp pl c sides) where
    pub nested_visiting : c < length gp → Visiting sp gp pl c sides
    nested_visiting h = record { tree = N.tree; few = N.few; room = N.room; placed = N.placed; inside = h; seen = P.seen }

    pub nested_turn : (r : Bool) (sides' : List ℕ) → c < length gp → Visited sp gp pl c sides' r → r ≡ true → NestedTo sp gp pl (c + 1) sides'
    nested_turn r sides' h X e =
        record { inside = omega arith; nested = below_more _ _ P.nested (true_T (sym X.test ∙ e)); seen = X.seen (true_T e) }

    pub nested_found : (r : Bool) (sides' : List ℕ) (f : Refusal) → c < length gp → Visited sp gp pl c sides' r → r ≡ false
        → f ≡ record { number = 10; tree = 2; place = c } → Nested sp gp pl sides' (Err f)
    nested_found r sides' f h X e z =
        record {
          judged = ap refused_by z ∙ sym (one_refused 10 2 (length gp) (nested_by sp gp pl) c h (sym X.test ∙ e) P.nested);
          seen = λ b. refused_not (sym b);
        }

    pub nested_end : length gp ≤ c → Nested sp gp pl sides (Ok tt)
    nested_end b =
        let z : c ≡ length gp = omega (arith, P.inside) in
        record { judged = sym (one_passed 10 2 (length gp) (nested_by sp gp pl) (λ j l. P.nested j (omega arith))); seen = λ x. rw z at P.seen }
