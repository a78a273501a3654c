-- Demand 3: among all legal histories the least one has the fewest duplications and losses, and is alone in that.
-- What legal means stands in specs/Legal.antt, in the sentences of 01, and knows nothing of any judge; losses, label and place stand in
-- specs/Histories.antt and specs/Places.antt. The theorem is `third`; `least_legal` says that the least history is one of them.
-- Assumes nothing.
use Prim.Native.Nat.{ℕ, ◌≤◌, ◌<◌}
use native.Mathlib.Omega.{arith}
use native.Mathlib.Nat.{mul-le-mul_left}
use native.Mathlib.Decide.{ℕ_discrete}
use mathlib.Core.Path.{◌≡◌, sym, ◌∙◌}
use mathlib.Core.Logic.{inl, inr}
use mathlib.Core.Bool.{Bool}
use lib.ListN.{length}
use lib.Dec.{T, eqb}
use borrow.Author.Tests.{ne_eqb}
use Rattle.trees.specs.Lists.{has, one}
use Rattle.trees.specs.Trees.{nodes, depth}
use Rattle.trees.specs.Tables.{Pair}
use Rattle.trees.specs.Sound.{Sound}
use Rattle.trees.proofs.Lists.{total_le, total_member}
use Rattle.trees.proofs.Lines.{same_depth}
use Rattle.trees.proofs.Kids.{has_node, node_has}
use Rattle.trees.proofs.Sound.{trees}
use Rattle.histories.specs.Places.{place}
use Rattle.histories.specs.Histories.{History, Agree, label, least, every_node, losses, duplications, cost, losses_in}
use Rattle.histories.specs.Legal.{Legal}
use Rattle.histories.specs.Lifts.{lift, extra, extras}
use Rattle.histories.proofs.Labels.{label_leaf, label_cases}
use Rattle.histories.proofs.Beyond.{place_lower, duplication_same, lifts_all, beyond}

-- what the least history is beside a history h; `counted` is the set of species nodes that depths count, in the base every node
pub record Third (w : Pair) (counted : ℕ → Bool) (h : History) : Type 0 where
  -- every duplication of the least history is one in h
  pub duplications : (g : ℕ) → g < length w.gp → label w g ≡ 2 → h.kind g ≡ 2
  -- h has no fewer losses
  pub fewest : losses (depth w.sp counted) w.gp (least w) ≤ losses (depth w.sp counted) w.gp h
  -- with as few losses, h is the least history
  pub alone : losses (depth w.sp counted) w.gp h ≡ losses (depth w.sp counted) w.gp (least w) → Agree w h (least w)

module _ {w : Pair} (S : Sound w) {counted : ℕ → Bool} {h : History} (L : Legal w counted h) (K : (g : ℕ) → g < length w.gp → T (counted (place w g))) where
  same_place : (g : ℕ) → g < length w.gp → lift (depth w.sp counted) w h g ≡ 0 → h.at g ≡ place w g
  unfolding lift
  same_place g l z = sym (same_depth (trees S).s.ground counted (place_lower S L g l) (L.at_counted g l) (omega arith))

  same_kind : (g : ℕ) → g < length w.gp → extra w h g ≡ 0 → h.kind g ≡ label w g
  unfolding extra one
  same_kind g l z =
      elim ((trees S).g_two g l) [
        | inl e ↦ L.leaf_kind g l e ∙ sym (label_leaf w g e)
        | inr i ↦
            elim (label_cases w g i) [
              | inl k ↦ elim (L.inner_kind g l i) [ inl j ↦ j ∙ sym k.0 | inr j ↦ absurd (omega (arith, rw (k.0, j) at z)) ]
              | inr k ↦ duplication_same S L g l k.0 ∙ sym k.0
            ]
      ]

  -- The losses of h are ours and a sum of lifts and extras, so never fewer; and if that sum is 0, every lift and every extra is.
  pub third_over : Third w counted h
  unfolding extras
  third_over =
      let d = depth w.sp counted in
      let b = beyond S L K in
      record {
        duplications = duplication_same S L;
        fewest = omega arith;
        alone = λ e g l.
            let n = has_node w.gp l in (
              same_place g l (omega (arith, lifts_all S L K, total_member (lift d w h) g (nodes w.gp) n)),
              same_kind g l (omega (arith, total_member (extra w h) g (nodes w.gp) n)),
            );
      }

-- demand 3
pub third : {w : Pair} → Sound w → (h : History) → Legal w every_node h → Third w every_node h
third S h L = third_over S L (λ g l. tt)

-- ---- in numbers, whatever the weights

module _ {w : Pair} (S : Sound w) (h : History) (L : Legal w every_node h) where
  one_mono : (g : ℕ) → T (has g (nodes w.gp)) → one (eqb (label w g) 2) ≤ one (eqb (h.kind g) 2)
  unfolding one
  one_mono g t =
      elim (ℕ_discrete (label w g) 2) [
        | yes e ↦ rw (e, duplication_same S L g (node_has w.gp t) e) (omega arith)
        | no e ↦ rw (ne_eqb (label w g) 2 e) (omega arith)
      ]

  pub fewest_duplications : duplications w.gp (least w) ≤ duplications w.gp h
  unfolding duplications
  fewest_duplications = total_le (λ g. one (eqb (label w g) 2)) (λ g. one (eqb (h.kind g) 2)) (nodes w.gp) one_mono

  pub least_cost : (dw lw : ℕ) → cost dw lw (duplications w.gp (least w)) (losses_in w (least w)) ≤ cost dw lw (duplications w.gp h) (losses_in w h)
  unfolding cost
  least_cost dw lw =
      omega (
        arith,
        mul-le-mul_left {m = duplications w.gp (least w)} {n = duplications w.gp h} dw fewest_duplications,
        mul-le-mul_left {m = losses_in w (least w)} {n = losses_in w h} lw (third S h L).fewest,
      )
