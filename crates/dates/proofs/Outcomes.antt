-- What each way through dating answers. Assumes nothing.
use Prim.Native.Nat.{ℕ, ◌≤◌, ◌<◌}
use mathlib.Core.Path.{◌≡◌, refl, ◌∙◌}
use mathlib.Core.List.{List, [], ◌∷◌}
use lib.ListN.{length}
use lib.Dec.{ltb}
use borrow.Author.Tests.{le-ltb}
use Rattle.trees.specs.Rulings.{accepted, refused, whole, verdict, fine, number_of, tree_of}
use Rattle.trees.specs.Tables.{Pair}
use Rattle.trees.specs.Sound.{Sound}
use Rattle.trees.specs.Rules.{pair_rules}
use Rattle.trees.proofs.Lent.{get_or_replaced}
use Rattle.trees.proofs.Rulings.{ruling_fail, ruling_all, ruling_stays, ruling_accepted}
use Rattle.trees.proofs.Soundness.{pair_accepted}
use Rattle.histories.specs.Histories.{least_places, least_labels}
use Rattle.histories.specs.Dating.{dated}
use Rattle.histories.specs.Rules.{dating_rules, dating_ruling}
use Rattle.histories.proofs.Tables.{length_places, length_labels, get_or_places, get_or_labels}
use Rattle.histories.proofs.Accepted.{dating_accepted}
use Rattle.fills.specs.Promises.{FillMeets}
use Rattle.dates.specs.Answers.{Told}

-- the tables that the fill leaves tell the least history
pub filled_told : {w : Pair} {p l p' l' : List ℕ} → Sound w → FillMeets w p l p' l' → Told w w.gp p' l'
filled_told {w} {p} {l} S F =
    record {
      sound = S;
      genes = refl;
      places = λ g h. rw F.places (get_or_replaced (least_places w) p g (rw (length_places w) h) ∙ get_or_places w g h);
      labels = λ g h. rw F.labels (get_or_replaced (least_labels w) l g (rw (length_labels w) h) ∙ get_or_labels w g h);
    }

module _ (w : Pair) (v : ℕ) where
  pub dating_refused : (n t x : ℕ) → verdict (pair_rules w) ≡ refused n t x → dating_ruling w v ≡ refused n t x
  unfolding dating_ruling dating_rules
  dating_refused n t x e = ruling_stays (pair_rules w) (whole 19 2 0 (ltb v (length w.gp)) ∷ []) fine (dated w v) n t x e

  module _ (a : verdict (pair_rules w) ≡ accepted fine) where
    pub dating_19 : length w.gp ≤ v → dating_ruling w v ≡ refused 19 2 0
    unfolding dating_ruling dating_rules number_of tree_of
    dating_19 h =
        ruling_all (pair_rules w) (whole 19 2 0 (ltb v (length w.gp)) ∷ []) (dated w v) (ruling_accepted (pair_rules w) fine fine a).0
        ∙ ruling_fail (whole 19 2 0 (ltb v (length w.gp))) [] (dated w v) 0 (refl, le-ltb v (length w.gp) h)

    pub dating_done : v < length w.gp → dating_ruling w v ≡ accepted (dated w v)
    dating_done h = (dating_accepted w v (dated w v)).1 (record { sound = (pair_accepted w).0 a; node = h; value = refl })
