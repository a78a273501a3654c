-- Rules 8 to 11 pass exactly for the legal histories. Assumes nothing.
use Prim.Native.Nat.{ℕ, ◌<◌}
use mathlib.Core.Path.{◌≡◌}
use mathlib.Core.Logic.{◌⊎◌, inl, inr, ◌↔◌}
use mathlib.Core.Bool.{Bool, true, false, ◌&&◌, ◌||◌, not}
use mathlib.Core.List.{[], ◌∷◌}
use lib.ListN.{length}
use lib.Dec.{T, eqb, ltb, eqb→eq, eqb_refl, ltb→lt, lt→ltb}
use Rattle.trees.specs.Trees.{up, Below, kid, Leaf, Inner, is_leaf}
use Rattle.trees.specs.Tables.{Pair, home}
use Rattle.trees.specs.Sound.{Sound}
use Rattle.trees.specs.Lists.{pick}
use Rattle.trees.specs.Rulings.{Rule, Passes, Every, done, and}
use Rattle.trees.proofs.Bools.{and_both, and_left, and_right, or_left, or_right, or_cases, T_true}
use Rattle.trees.proofs.Sound.{trees, leaf_is, is_leaf_lem, not_leaf}
use Rattle.histories.specs.Places.{below}
use Rattle.histories.specs.Histories.{History}
use Rattle.histories.specs.Legal.{Legal, Apart}
use Rattle.histories.specs.Rules.{placed, right_kind, fitting, homed, nested, apart, parted, descent_rules}
use Rattle.histories.proofs.Leaves.{T-below, below_T}
use Rattle.trees.proofs.Rulings.{every_head, every_tail}

-- if a then b, as a test
if_then : (a b : Bool) → T (not a || b) ↔ (T a → T b)
if_then true b = ((λ t s. t), (λ f. f tt))
if_then false b = ((λ t s. absurd s), (λ f. tt))

-- ---- each test says its sentence

pub placed_is : (w : Pair) (counted : ℕ → Bool) (h : History) (g : ℕ) → T (placed w counted h g) ↔ ((h.at g < length w.sp) × T (counted (h.at g)))
unfolding placed
placed_is w counted h g =
    let a = ltb (h.at g) (length w.sp) in
    let b = counted (h.at g) in (
      (λ t. (ltb→lt (h.at g) (length w.sp) (and_left a b t), and_right a b t)),
      (λ p. and_both a b (lt→ltb (h.at g) (length w.sp) p.0) p.1),
    )

pub fitting_is : (w : Pair) (counted : ℕ → Bool) (h : History) (g : ℕ) → T (fitting w counted h g) ↔ (T (placed w counted h g) × T (right_kind w h g))
unfolding fitting
fitting_is w counted h g =
    let a = placed w counted h g in
    let b = right_kind w h g in
    ((λ t. (and_left a b t, and_right a b t)), (λ p. and_both a b p.0 p.1))

module _ (w : Pair) (h : History) (g : ℕ) where
  pub right_kind_leaf : Leaf w.gp g → T (right_kind w h g) ↔ (h.kind g ≡ 0)
  unfolding right_kind pick
  right_kind_leaf e = rw (T_true {b = is_leaf w.gp g} (is_leaf_lem w.gp g e)) (eqb→eq (h.kind g) 0, λ q. rw q tt)

  pub right_kind_inner : Inner w.gp g → T (right_kind w h g) ↔ ((h.kind g ≡ 1) ⊎ (h.kind g ≡ 2))
  unfolding right_kind pick
  right_kind_inner i =
      let k = h.kind g in
      rw (not_leaf w.gp g i) (
        (λ t. elim (or_cases (eqb k 1) (eqb k 2) t) [ inl e ↦ inl (eqb→eq k 1 e) | inr e ↦ inr (eqb→eq k 2 e) ]),
        (λ q. elim q [ inl e ↦ rw e tt | inr e ↦ rw e tt ]),
      )

  pub homed_is : T (homed w h g) ↔ (Leaf w.gp g → h.at g ≡ home w g)
  unfolding homed
  homed_is =
      let k = if_then (is_leaf w.gp g) (eqb (h.at g) (home w g)) in (
        (λ t e. eqb→eq (h.at g) (home w g) (k.0 t (is_leaf_lem w.gp g e))),
        (λ f. k.1 (λ t. rw (f (leaf_is w.gp g t)) (eqb_refl (home w g)))),
      )

module _ {w : Pair} (S : Sound w) (h : History) where
  pub nested_is : (c : ℕ) → T (nested w h c) ↔ (up w.gp c < length w.gp → Below w.sp (h.at (up w.gp c)) (h.at c))
  unfolding nested
  nested_is c =
      let u = up w.gp c in
      let k = if_then (ltb u (length w.gp)) (below w.sp (h.at u) (h.at c)) in (
        (λ t l. T-below w.sp (k.0 t (lt→ltb u (length w.gp) l))),
        (λ f. k.1 (λ t. below_T (trees S).s.ground (f (ltb→lt u (length w.gp) t)))),
      )

  pub apart_is : (s x y : ℕ) → T (apart w.sp s x y) ↔ Apart w.sp s x y
  unfolding apart
  apart_is s x y =
      let G = (trees S).s.ground in
      let a = below w.sp (kid w.sp s 0) x in
      let b = below w.sp (kid w.sp s 1) y in
      let c = below w.sp (kid w.sp s 1) x in
      let d = below w.sp (kid w.sp s 0) y in (
        (λ t. elim (or_cases (a && b) (c && d) t) [
          | inl p ↦ inl (T-below w.sp (and_left a b p), T-below w.sp (and_right a b p))
          | inr p ↦ inr (T-below w.sp (and_left c d p), T-below w.sp (and_right c d p))
        ]),
        (λ q. elim q [
          | inl p ↦ or_left (a && b) (c && d) (and_both a b (below_T G p.0) (below_T G p.1))
          | inr p ↦ or_right (a && b) (c && d) (and_both c d (below_T G p.0) (below_T G p.1))
        ]),
      )

  pub parted_is : (g : ℕ) → T (parted w h g) ↔ (h.kind g ≡ 1 → Apart w.sp (h.at g) (h.at (kid w.gp g 0)) (h.at (kid w.gp g 1)))
  unfolding parted
  parted_is g =
      let s = h.at g in
      let x = h.at (kid w.gp g 0) in
      let y = h.at (kid w.gp g 1) in
      let k = if_then (eqb (h.kind g) 1) (apart w.sp s x y) in (
        (λ t e. (apart_is s x y).0 (k.0 t (rw e tt))),
        (λ f. k.1 (λ t. (apart_is s x y).1 (f (eqb→eq (h.kind g) 1 t)))),
      )

-- ---- all four rules

four : {a b c d : Rule} → Passes a → Passes b → Passes c → Passes d → Every Passes (a ∷ b ∷ c ∷ d ∷ [])
four p q r s = and p (and q (and r (and s done)))

-- rules 8 to 11 pass exactly if the history is legal
module _ {w : Pair} (S : Sound w) (counted : ℕ → Bool) (h : History) where
  passes_legal : Every Passes (descent_rules w counted h) → Legal w counted h
  unfolding descent_rules fitting
  passes_legal p =
      let p8 = every_head p in
      let p9 = every_head (every_tail p) in
      let p10 = every_head (every_tail (every_tail p)) in
      let p11 = every_head (every_tail (every_tail (every_tail p))) in
      let at : (g : ℕ) → g < length w.gp → (h.at g < length w.sp) × T (counted (h.at g)) =
      (λ g l. (placed_is w counted h g).0 (and_left (placed w counted h g) (right_kind w h g) (p8 g l))) in
      let kind : (g : ℕ) → g < length w.gp → T (right_kind w h g) = (λ g l. and_right (placed w counted h g) (right_kind w h g) (p8 g l)) in
      record {
        at_node = λ g l. (at g l).0;
        at_counted = λ g l. (at g l).1;
        leaf_kind = λ g l e. (right_kind_leaf w h g e).0 (kind g l);
        inner_kind = λ g l i. (right_kind_inner w h g i).0 (kind g l);
        leaf_at = λ g l. (homed_is w h g).0 (p9 g l);
        descent = λ c l. (nested_is S h c).0 (p10 c l);
        sides = λ g l. (parted_is S h g).0 (p11 g l);
      }

  legal_passes : Legal w counted h → Every Passes (descent_rules w counted h)
  unfolding descent_rules fitting
  legal_passes L =
      let kind : (g : ℕ) → g < length w.gp → T (right_kind w h g) =
      (λ g l. elim ((trees S).g_two g l) [ inl e ↦ (right_kind_leaf w h g e).1 (L.leaf_kind g l e) | inr i ↦ (right_kind_inner w h g i).1 (L.inner_kind g l i) ]) in
      four
      (λ g l. and_both (placed w counted h g) (right_kind w h g) ((placed_is w counted h g).1 (L.at_node g l, L.at_counted g l)) (kind g l))
      (λ g l. (homed_is w h g).1 (L.leaf_at g l))
      (λ c l. (nested_is S h c).1 (L.descent c l))
      (λ g l. (parted_is S h g).1 (L.sides g l))

  pub descent_legal : Every Passes (descent_rules w counted h) ↔ Legal w counted h
  descent_legal = (passes_legal, legal_passes)
