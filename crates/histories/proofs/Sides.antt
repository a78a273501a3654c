-- What a legal speciation says: its children's places lie below two different children of its own. Assumes nothing.
use Prim.Native.Nat.{ℕ, ◌+◌, ◌≤◌, ◌<◌}
use native.Mathlib.Omega.{arith}
use mathlib.Core.Path.{◌≡◌}
use mathlib.Core.Logic.{inl, inr, ◌≢◌}
use mathlib.Core.Bool.{Bool}
use mathlib.Core.List.{List}
use lib.ListN.{length}
use lib.Dec.{eqb}
use Rattle.trees.specs.Lists.{one}
use Rattle.trees.specs.Trees.{up, Below, here, kid, Inner, depth}
use Rattle.trees.specs.Tables.{Pair}
use Rattle.trees.specs.Sound.{SoundTree, Sound}
use Rattle.trees.proofs.Bools.{one_T}
use Rattle.trees.proofs.Lines.{top_node, depth_le, depth_below}
use Rattle.trees.proofs.Kids.{kid_first, kid_second, kid_order, either_kid, no_kid}
use Rattle.trees.proofs.Sound.{trees}
use Rattle.histories.specs.Histories.{History}
use Rattle.histories.specs.Legal.{Legal}

-- two different children of the place of g, one above the place of each child of g
pub record Sided (w : Pair) (h : History) (g : ℕ) : Type 0 where
  pub s0 : ℕ
  pub s1 : ℕ
  pub apart : s0 ≢ s1
  pub up0 : up w.sp s0 ≡ h.at g
  pub up1 : up w.sp s1 ≡ h.at g
  pub in0 : Below w.sp s0 (h.at (kid w.gp g 0))
  pub in1 : Below w.sp s1 (h.at (kid w.gp g 1))

-- a species node with something at or below one of its children is no leaf
pub inner_kid : {sp st : List ℕ} → SoundTree sp st → (s i y : ℕ) → s < length sp → Below sp (kid sp s i) y → Inner sp s
inner_kid {sp} S s i y l b = elim (S.two s l) [ inl e ↦ absurd (omega (arith, S.few, rw (no_kid sp s i e) at (top_node b))) | inr k ↦ k ]

module _ {w : Pair} (S : Sound w) {counted : ℕ → Bool} {h : History} (L : Legal w counted h) where
  pub sided : (g : ℕ) → g < length w.gp → h.kind g ≡ 1 → Sided w h g
  sided g l e =
      let s : ℕ = h.at g in
      elim (L.sides g l e) [
        | inl b ↦
            let j = inner_kid S.species.tree s 0 (h.at (kid w.gp g 0)) (L.at_node g l) b.0 in
            record {
              s0 = kid w.sp s 0;
              s1 = kid w.sp s 1;
              apart = omega (arith, kid_order w.sp s j);
              up0 = (kid_first w.sp s j).1;
              up1 = (kid_second w.sp s j).1;
              in0 = b.0;
              in1 = b.1;
            }
        | inr b ↦
            let j = inner_kid S.species.tree s 1 (h.at (kid w.gp g 0)) (L.at_node g l) b.0 in
            record {
              s0 = kid w.sp s 1;
              s1 = kid w.sp s 0;
              apart = omega (arith, kid_order w.sp s j);
              up0 = (kid_second w.sp s j).1;
              up1 = (kid_first w.sp s j).1;
              in0 = b.0;
              in1 = b.1;
            }
      ]

  -- a place below a child of g's place is deeper
  deep_at : (g s x : ℕ) → g < length w.gp → up w.sp s ≡ h.at g → Below w.sp s x → depth w.sp counted (h.at g) + 1 ≤ depth w.sp counted x
  deep_at g s x l u b =
      omega (
        arith,
        one_T (counted (h.at g)) (L.at_counted g l),
        depth_below (trees S).s.ground counted {a = h.at g} s (rw u (here (L.at_node g l))),
        depth_le (trees S).s.ground counted b,
      )

  -- an edge of a legal history is as long as it has to be: at least 0 steps, from a speciation at least 1
  pub edge_long : (g c : ℕ) → g < length w.gp → Inner w.gp g → c < length w.gp → up w.gp c ≡ g
      → depth w.sp counted (h.at g) + one (eqb (h.kind g) 1) ≤ depth w.sp counted (h.at c)
  unfolding one
  edge_long g c l i m u =
      elim (L.inner_kind g l i) [
        | inl k ↦
            let a = sided g l k in
            rw k (elim (either_kid w.gp g c i m u) [ inl e ↦ rw e (deep_at g a.s0 (h.at (kid w.gp g 0)) l a.up0 a.in0) | inr e ↦ rw e (deep_at g a.s1 (h.at (kid w.gp g 1)) l a.up1 a.in1) ])
        | inr k ↦ rw k (omega (arith, depth_le (trees S).s.ground counted (rw u at (L.descent c m (rw u l)))))
      ]
