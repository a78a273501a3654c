-- Tables in which every place and label is the least history's, as the fill promises them. Assumes nothing.
use Prim.Native.Nat.{ℕ, ◌<◌}
use mathlib.Core.Path.{sym, ◌∙◌}
use mathlib.Core.List.{List}
use lib.ListN.{length}
use Rattle.trees.specs.Tables.{Pair}
use Rattle.trees.proofs.Lent.{replaced_is}
use Rattle.histories.specs.Histories.{least_places, least_labels}
use Rattle.histories.proofs.Tables.{length_places, length_labels, get_or_places, get_or_labels}
use Rattle.fills.specs.Filling.{FilledFrom}
use Rattle.fills.specs.Promises.{FillMeets}

pub filled_meets : {w : Pair} {p p' l l' : List ℕ} → FilledFrom w p p' l l' → FillMeets w p l p' l'
filled_meets {w} {p} {p'} {l} {l'} F =
    let e = length_places w in
    let f = length_labels w in
    record {
      places = replaced_is (least_places w) p p' (rw e F.filled.places_room)
          (λ g h. let b : g < length w.gp = rw e at h in (F.filled.right g b).0 ∙ sym (get_or_places w g b)) (rw e F.places_kept.rest);
      labels = replaced_is (least_labels w) l l' (rw f F.filled.labels_room)
          (λ g h. let b : g < length w.gp = rw f at h in (F.filled.right g b).1 ∙ sym (get_or_labels w g b)) (rw f F.labels_kept.rest);
    }
