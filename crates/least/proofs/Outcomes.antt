-- What each way through the least history answers and leaves. Assumes nothing.
use Prim.Native.Nat.{ℕ, ◌≤◌}
use mathlib.Core.Path.{◌≡◌, refl, sym, ◌∙◌}
use mathlib.Core.Bool.{false}
use mathlib.Core.List.{List, [], ◌∷◌}
use lib.ListN.{length}
use Rattle.trees.specs.Rulings.{accepted, refused, whole, verdict, fine, number_of, tree_of}
use Rattle.trees.specs.Tables.{Pair}
use Rattle.trees.specs.Sound.{Sound}
use Rattle.trees.specs.Rules.{pair_rules}
use Rattle.trees.proofs.Rulings.{ruling_fail, ruling_all, ruling_stays, ruling_accepted}
use Rattle.trees.proofs.Soundness.{pair_accepted}
use Rattle.trees.proofs.Lent.{length_replaced, get_or_replaced}
use Rattle.histories.specs.Histories.{told, Agree, least, least_places, least_labels, cost}
use Rattle.histories.specs.Outcomes.{Outcome, least_outcome}
use Rattle.histories.specs.Rules.{roomy, least_rules, Counts, least_counts, least_ruling}
use Rattle.histories.proofs.Tables.{length_places, length_labels, get_or_places, get_or_labels}
use Rattle.histories.proofs.Accepted.{history_accepted}
use Rattle.histories.proofs.Legal.{least_legal, legal_agree}
use Rattle.counts.specs.Tallies.{Totals, history_tally, Story}
use Rattle.counts.proofs.Tallying.{tally_agree}
use Rattle.fills.specs.Promises.{FillMeets}

-- ---- the tables that the fill leaves

module _ {w : Pair} (S : Sound w) {p p' l l' : List ℕ} (F : FillMeets w p l p' l') where
  -- they tell the least history
  filled_told : Agree w (told p' l') (least w)
  filled_told g h =
      (rw F.places (get_or_replaced (least_places w) p g (rw (length_places w) h) ∙ get_or_places w g h), rw F.labels (get_or_replaced (least_labels w) l g (rw (length_labels w) h) ∙ get_or_labels w g h))

  -- no longer and no shorter than they were
  pub filled_places : length w.gp ≤ length p → length p' ≡ length p
  filled_places a = rw F.places (length_replaced (least_places w) p (rw (length_places w) a))

  pub filled_labels : length w.gp ≤ length l → length l' ≡ length l
  filled_labels b = rw F.labels (length_replaced (least_labels w) l (rw (length_labels w) b))

  pub filled_story : length w.gp ≤ length p → length w.gp ≤ length l → Story w p' l'
  filled_story a b =
      record {
        sound = S;
        places_room = rw (filled_places a) a;
        labels_room = rw (filled_labels b) b;
        legal = legal_agree S filled_told (least_legal S);
      }

  pub filled_tally : history_tally w (told p' l') ≡ history_tally w (least w)
  filled_tally = tally_agree w filled_told

-- ---- the least history

-- what a refusal leaves
abbrev pub unchanged : List ℕ → List ℕ → ℕ → ℕ → ℕ → Outcome
unchanged p l n t v = record { answer = refused n t v; places = p; labels = l }

module _ (w : Pair) (p l : List ℕ) (dw lw : ℕ) where
  stays : (n t v : ℕ) → least_ruling w p l dw lw ≡ refused n t v → unchanged p l n t v ≡ least_outcome w p l dw lw
  unfolding least_outcome
  stays n t v e = rw e

  pub least_refused : (n t v : ℕ) → verdict (pair_rules w) ≡ refused n t v → unchanged p l n t v ≡ least_outcome w p l dw lw
  unfolding least_ruling least_rules
  least_refused n t v e = stays n t v (ruling_stays (pair_rules w) (whole 7 0 0 (roomy w p l) ∷ []) fine (least_counts w dw lw) n t v e)

  module _ (a : verdict (pair_rules w) ≡ accepted fine) where
    pub least_sound : Sound w
    least_sound = (pair_accepted w).0 a

    pub least_short : roomy w p l ≡ false → unchanged p l 7 0 0 ≡ least_outcome w p l dw lw
    unfolding least_ruling least_rules number_of tree_of
    least_short e =
        stays 7 0 0
        (ruling_all (pair_rules w) (whole 7 0 0 (roomy w p l) ∷ []) (least_counts w dw lw) (ruling_accepted (pair_rules w) fine fine a).0
        ∙ ruling_fail (whole 7 0 0 (roomy w p l)) [] (least_counts w dw lw) 0 (refl, e))

    pub least_done : (p' l' : List ℕ) (c : Counts) → FillMeets w p l p' l' → length w.gp ≤ length p → length w.gp ≤ length l → c ≡ least_counts w dw lw
        → ◌≡◌ {A = Outcome} (record { answer = accepted c; places = p'; labels = l' }) (least_outcome w p l dw lw)
    unfolding least_outcome
    least_done p' l' c F b d e =
        let r : least_ruling w p l dw lw ≡ accepted c =
        (history_accepted w p l dw lw c).1 (record { sound = least_sound; places_room = b; labels_room = d; value = sym e }) in
        rw (r, F.places, F.labels)

-- the counts from the tally of the tables
pub counts_from : (w : Pair) (dw lw : ℕ) (t : Totals) (k : ℕ) → t ≡ history_tally w (least w) → k ≡ cost dw lw t.duplications t.losses
    → ◌≡◌ {A = Counts} (record { duplications = t.duplications; losses = t.losses; speciations = t.speciations; climbs = t.climbs; cost = k }) (least_counts w dw lw)
unfolding least_counts history_tally
counts_from w dw lw t k e f = rw (f, e)
