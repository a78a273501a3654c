-- What each call accepts, and that it accepts the tables of the least history. Assumes nothing.
use Prim.Native.Nat.{ℕ, ◌≤◌, ◌<◌}
use mathlib.Core.Path.{◌≡◌}
use mathlib.Core.Logic.{◌↔◌}
use mathlib.Core.List.{List, [], ◌∷◌, ◌++◌}
use lib.ListN.{length}
use lib.Dec.{T, leb, ltb, leb→le, le→leb, ltb→lt, lt→ltb}
use Rattle.trees.specs.Tables.{Pair}
use Rattle.trees.specs.Sound.{Sound}
use Rattle.trees.specs.Rulings.{accepted, Rule, whole, ruling, Passes, Every, done, and}
use Rattle.trees.specs.Rules.{pair_rules}
use Rattle.trees.proofs.Bools.{and_both, and_left, and_right}
use Rattle.histories.specs.Histories.{Agree, told, least, every_node}
use Rattle.histories.specs.Dating.{Dated, dated}
use Rattle.histories.specs.Legal.{Legal}
use Rattle.histories.specs.Rules.{roomy, descent_rules, least_rules, offer_rules, dating_rules, Counts, OfferCounts, least_counts, offer_counts, least_ruling, offer_ruling, dating_ruling}
use Rattle.histories.proofs.Legal.{least_legal, legal_agree}
use Rattle.histories.proofs.Counts.{losses_agree, duplications_agree, speciations_agree}
use Rattle.trees.proofs.Rulings.{every_head, every_tail, every_join, every_left, every_right, ruling_is}
use Rattle.trees.proofs.Soundness.{pair_sound}
use Rattle.histories.proofs.Judged.{descent_legal}

pub roomy_is : (w : Pair) (places labels : List ℕ) → T (roomy w places labels) ↔ ((length w.gp ≤ length places) × (length w.gp ≤ length labels))
unfolding roomy
roomy_is w places labels =
    let q = length w.gp in
    let a = leb q (length places) in
    let b = leb q (length labels) in (
      (λ t. (leb→le q (length places) (and_left a b t), leb→le q (length labels) (and_right a b t))),
      (λ p. and_both a b (le→leb q (length places) p.0) (le→leb q (length labels) p.1)),
    )

-- what it takes for a call to be accepted, with which value
pub record Answered (w : Pair) (places labels : List ℕ) (dw lw : ℕ) (v : Counts) : Type 0 where
  pub sound : Sound w
  pub places_room : length w.gp ≤ length places
  pub labels_room : length w.gp ≤ length labels
  pub value : least_counts w dw lw ≡ v

pub record Offered (w : Pair) (places labels : List ℕ) (v : OfferCounts) : Type 0 where
  pub sound : Sound w
  pub places_room : length w.gp ≤ length places
  pub labels_room : length w.gp ≤ length labels
  pub legal : Legal w every_node (told places labels)
  pub value : offer_counts w (told places labels) ≡ v

pub record Asked (w : Pair) (v : ℕ) (d : Dated) : Type 0 where
  pub sound : Sound w
  pub node : v < length w.gp
  pub value : dated w v ≡ d

module _ (w : Pair) where
  -- the rules of the trees, then a call's own
  call_accepted : {A : Type 0} (rs : List Rule) (a b : A) → (ruling (pair_rules w ++ rs) a ≡ accepted b) ↔ (Sound w × Every Passes rs × (a ≡ b))
  call_accepted rs a b =
      let k = ruling_is (pair_rules w ++ rs) a b in (
        (λ e. let p = k.0 e in ((pair_sound w).0 (every_left (pair_rules w) rs p.0), every_right (pair_rules w) rs p.0, p.1)),
        (λ p. k.1 (every_join (pair_rules w) rs ((pair_sound w).1 p.0) p.1, p.2)),
      )

  pub history_accepted : (places labels : List ℕ) (dw lw : ℕ) (v : Counts) → (least_ruling w places labels dw lw ≡ accepted v) ↔ Answered w places labels dw lw v
  unfolding least_ruling least_rules
  history_accepted places labels dw lw v =
      let k = call_accepted (whole 7 0 0 (roomy w places labels) ∷ []) (least_counts w dw lw) v in
      let room = roomy_is w places labels in (
        (λ e. let p = k.0 e in let r = room.0 (every_head p.1) in record { sound = p.0; places_room = r.0; labels_room = r.1; value = p.2 }),
        (λ A. k.1 (A.sound, and (room.1 (A.places_room, A.labels_room)) done, A.value)),
      )

  -- accepted exactly if the trees are sound, the tables long enough and the history they tell legal
  pub offer_accepted : (places labels : List ℕ) (v : OfferCounts) → (offer_ruling w places labels ≡ accepted v) ↔ Offered w places labels v
  unfolding offer_ruling offer_rules
  offer_accepted places labels v =
      let h = told places labels in
      let k = call_accepted (whole 7 0 0 (roomy w places labels) ∷ descent_rules w every_node h) (offer_counts w h) v in
      let room = roomy_is w places labels in (
        (λ e.
            let p = k.0 e in
            let r = room.0 (every_head p.1) in
            record { sound = p.0; places_room = r.0; labels_room = r.1; legal = (descent_legal p.0 every_node h).0 (every_tail p.1); value = p.2 }),
        (λ A. k.1 (A.sound, and (room.1 (A.places_room, A.labels_room)) ((descent_legal A.sound every_node h).1 A.legal), A.value)),
      )

  pub dating_accepted : (v : ℕ) (d : Dated) → (dating_ruling w v ≡ accepted d) ↔ Asked w v d
  unfolding dating_ruling dating_rules
  dating_accepted v d =
      let q = length w.gp in
      let k = call_accepted (whole 19 2 0 (ltb v q) ∷ []) (dated w v) d in (
        (λ e. let p = k.0 e in record { sound = p.0; node = ltb→lt v q (every_head p.1); value = p.2 }),
        (λ A. k.1 (A.sound, and (lt→ltb v q A.node) done, A.value)),
      )

  -- tables that tell the least history are accepted, with its counts
  pub least_accepted : Sound w → (places labels : List ℕ) → length w.gp ≤ length places → length w.gp ≤ length labels → Agree w (told places labels) (least w)
      → offer_ruling w places labels ≡ accepted (offer_counts w (least w))
  unfolding offer_counts
  least_accepted S places labels a b A =
      (offer_accepted places labels (offer_counts w (least w))).1
      (record {
        sound = S;
        places_room = a;
        labels_room = b;
        legal = legal_agree S A (least_legal S);
        value = rw (losses_agree w A, duplications_agree w A, speciations_agree w A);
      })
