-- The sums by a table of depths are what 01 counts of a legal history. Assumes nothing.
use Prim.Native.Nat.{ℕ, ◌-◌, ◌≤◌, ◌<◌}
use native.Mathlib.Omega.{arith}
use native.Mathlib.Decide.{dec_lt}
use mathlib.Core.Path.{◌≡◌}
use mathlib.Core.List.{List}
use lib.ListN.{length, get_or}
use lib.Dec.{ltb}
use borrow.Author.Tests.{lt-ltb, le-ltb}
use Rattle.trees.specs.Lists.{pick}
use Rattle.trees.specs.Trees.{up}
use Rattle.trees.specs.Tables.{Pair}
use Rattle.trees.proofs.Lists.{only}
use Rattle.trees.proofs.Lines.{up_at, depth_le}
use Rattle.trees.proofs.Sound.{trees}
use Rattle.histories.specs.Histories.{History, told, Agree, every_node, depth_in}
use Rattle.histories.proofs.Counts.{losses_agree, climbs_agree, duplications_agree, speciations_agree}
use Rattle.counts.specs.Tallies.{history_tally, Story}
use Rattle.counts.specs.Sums.{Deep, steps_of, Step, Countable}
use Rattle.counts.proofs.Adding.{steps_small}

-- ---- one step

module _ {depths gp places labels : List ℕ} (C : Countable depths gp places labels) (c : ℕ) (l : c < length gp) where
  pub step_of : Step depths gp places c
  step_of = record { inside = l; room = C.places_room; low_in = C.place_in c l; high_in = λ u. C.place_in (get_or gp c 0) u; falls = C.falls c l }

-- below the root the steps are the difference of two depths
pub step_up : (depths gp places : List ℕ) (c : ℕ) → get_or gp c 0 < length gp
    → steps_of depths gp places c ≡ get_or depths (get_or places c 0) 0 - get_or depths (get_or places (get_or gp c 0) 0) 0
unfolding steps_of pick
step_up depths gp places c u = rw (lt-ltb (get_or gp c 0) (length gp) u)

-- at the root there are none
pub step_root : (depths gp places : List ℕ) (c : ℕ) → length gp ≤ get_or gp c 0 → steps_of depths gp places c ≡ 0
unfolding steps_of pick
step_root depths gp places c u = rw (le-ltb (get_or gp c 0) (length gp) u)

module _ {w : Pair} {depths places labels : List ℕ} (Y : Story w places labels) (D : Deep w.sp depths) where
  abbrev h : History
  h = told places labels

  place_in : (c : ℕ) → c < length w.gp → get_or places c 0 < length w.sp
  place_in c l = Y.legal.at_node c l

  deep_at : (c : ℕ) → c < length w.gp → get_or depths (get_or places c 0) 0 ≡ depth_in w (h.at c)
  deep_at c l = D.at (get_or places c 0) (place_in c l)

  -- one step of the sum is one edge's climb
  pub steps_edge : (c : ℕ) → c < length w.gp → steps_of depths w.gp places c ≡ only (ltb (up w.gp c) (length w.gp)) (depth_in w (h.at c) - depth_in w (h.at (up w.gp c)))
  unfolding steps_of pick
  steps_edge c l =
      let e = up_at w.gp c l in
      rw e (elim (dec_lt (get_or w.gp c 0) (length w.gp)) [
        | yes u ↦ rw (lt-ltb (get_or w.gp c 0) (length w.gp) u, deep_at c l, deep_at (get_or w.gp c 0) u)
        | no u ↦ rw (le-ltb (get_or w.gp c 0) (length w.gp) (omega arith))
      ])

  pub countable : Countable depths w.gp places labels
  countable =
      record {
        few = Y.sound.genes.few;
        places_room = Y.places_room;
        labels_room = Y.labels_room;
        place_in = λ c l. omega (arith, place_in c l, D.size, D.few);
        falls = λ c l u.
            rw (deep_at c l, deep_at (get_or w.gp c 0) u)
            (depth_le (trees Y.sound).s.ground every_node (rw (up_at w.gp c l) at (Y.legal.descent c l (rw (up_at w.gp c l) u))));
        steps_few = steps_small Y (steps_of depths w.gp places) steps_edge;
      }

-- histories that agree at every gene node count alike
pub tally_agree : (w : Pair) {h k : History} → Agree w h k → history_tally w h ≡ history_tally w k
unfolding history_tally
tally_agree w A = rw (duplications_agree w A, losses_agree w A (depth_in w), speciations_agree w A, climbs_agree w A (depth_in w))
