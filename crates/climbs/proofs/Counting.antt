-- The sums by climbing are what 01 counts of a legal history. Assumes nothing.
use Prim.Native.Nat.{ℕ, ◌-◌, ◌<◌}
use native.Mathlib.Omega.{arith}
use native.Mathlib.Decide.{dec_lt}
use mathlib.Core.Path.{◌≡◌}
use mathlib.Core.List.{List}
use lib.ListN.{length, get_or}
use lib.Dec.{ltb}
use borrow.Author.Tests.{lt-ltb, le-ltb}
use Rattle.trees.specs.Lists.{pick}
use Rattle.trees.specs.Trees.{up}
use Rattle.trees.specs.Tables.{Pair}
use Rattle.trees.proofs.Lists.{only}
use Rattle.trees.proofs.Lines.{up_at}
use Rattle.histories.specs.Histories.{History, told, depth_in}
use Rattle.counts.specs.Tallies.{Story}
use Rattle.counts.proofs.Adding.{steps_small}
use Rattle.climbs.specs.Climbing.{steps_of, Climbable}

-- ---- the sums of a legal history

module _ {w : Pair} {places labels : List ℕ} (Y : Story w places labels) where
  abbrev h : History
  h = told places labels

  -- one step of the sum is one edge's climb
  pub steps_edge : (c : ℕ) → c < length w.gp → steps_of w.sp w.gp places c ≡ only (ltb (up w.gp c) (length w.gp)) (depth_in w (h.at c) - depth_in w (h.at (up w.gp c)))
  unfolding steps_of pick
  steps_edge c l =
      rw (up_at w.gp c l) (elim (dec_lt (get_or w.gp c 0) (length w.gp)) [
        | yes u ↦ rw (lt-ltb (get_or w.gp c 0) (length w.gp) u)
        | no u ↦ rw (le-ltb (get_or w.gp c 0) (length w.gp) (omega arith))
      ])

  pub climbable : Climbable w.sp w.gp places
  climbable =
      record {
        tree = (w.st, Y.sound.species.tree);
        few = Y.sound.genes.few;
        room = Y.places_room;
        under = λ c l u. rw (up_at w.gp c l) at (Y.legal.descent c l (rw (up_at w.gp c l) u));
        steps_few = steps_small Y (steps_of w.sp w.gp places) steps_edge;
      }
