-- What the call of the least history leaves in the two lent tables.
--   least_written : accepted, the first q entries are the places M(g) and the labels, and every entry behind them is as it was
--   least_left    : refused, both tables are as they were
-- Assumes nothing.
use Prim.Native.Nat.{ℕ, ◌<◌}
use mathlib.Core.Path.{◌≡◌, refl, ◌∙◌}
use mathlib.Core.List.{List}
use lib.ListN.{length, get_or, drop}
use Rattle.trees.specs.Tables.{Pair}
use Rattle.trees.specs.Rulings.{accepted, refused}
use Rattle.trees.specs.Lent.{on_accepted}
use Rattle.trees.proofs.Lent.{get_or_replaced, drop_replaced}
use Rattle.histories.specs.Places.{place}
use Rattle.histories.specs.Histories.{label, least_places, least_labels}
use Rattle.histories.specs.Rules.{Counts, least_ruling}
use Rattle.histories.specs.Outcomes.{least_outcome}
use Rattle.histories.proofs.Tables.{length_places, length_labels, get_or_places, get_or_labels}

module _ (w : Pair) (p l : List ℕ) (dw lw : ℕ) where
  left_places : (least_outcome w p l dw lw).places ≡ on_accepted (least_ruling w p l dw lw) (least_places w) p
  unfolding least_outcome
  left_places = refl

  left_labels : (least_outcome w p l dw lw).labels ≡ on_accepted (least_ruling w p l dw lw) (least_labels w) l
  unfolding least_outcome
  left_labels = refl

  pub least_written : (c : Counts) → (least_outcome w p l dw lw).answer ≡ accepted c
      → ((g : ℕ) → g < length w.gp → (get_or (least_outcome w p l dw lw).places g 0 ≡ place w g) × (get_or (least_outcome w p l dw lw).labels g 0 ≡ label w g))
      × (drop (length w.gp) (least_outcome w p l dw lw).places ≡ drop (length w.gp) p)
      × (drop (length w.gp) (least_outcome w p l dw lw).labels ≡ drop (length w.gp) l)
  unfolding least_outcome
  least_written c e = rw (left_places, left_labels, e) (
    (λ g h. (get_or_replaced (least_places w) p g (rw (length_places w) h) ∙ get_or_places w g h, get_or_replaced (least_labels w) l g (rw (length_labels w) h) ∙ get_or_labels w g h)),
    rw (length_places w) at (drop_replaced (least_places w) p),
    rw (length_labels w) at (drop_replaced (least_labels w) l),
  )

  pub least_left : (n t v : ℕ) → (least_outcome w p l dw lw).answer ≡ refused n t v → ((least_outcome w p l dw lw).places ≡ p) × ((least_outcome w p l dw lw).labels ≡ l)
  unfolding least_outcome
  least_left n t v e = rw (left_places, left_labels, e) (refl, refl)
