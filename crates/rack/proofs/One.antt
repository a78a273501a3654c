-- One answer only: any two results that meet a contract of this crate are equal. Assumes nothing.
use Prim.Native.Nat.{ℕ}
use mathlib.Core.Path.{sym, ap, ◌∙◌}
use mathlib.Core.List.{List}
use Rattle.trees.specs.One.{Single}
use Rattle.trees.specs.Tables.{Pair}
use Rattle.trees.proofs.One.{single_value}
use Rattle.rack.specs.Rack.{RackOutcome}
use Rattle.rack.specs.Promises.{HistoryMeets, HistoryTreeMeets, HistoryPlaceMeets}

-- the number and the three tables
pub history_one : (w : Pair) (p l c : List ℕ) → Single (λ (r : ℕ × List ℕ × List ℕ × List ℕ). HistoryMeets w p l c r.0 r.1 r.2 r.3)
history_one w p l c a b f g = ap (λ (o : RackOutcome). (o.number, o.places, o.labels, o.counts)) (f ∙ sym g)

pub history_tree_one : (w : Pair) → Single (HistoryTreeMeets w)
history_tree_one w = single_value _

pub history_place_one : (w : Pair) → Single (HistoryPlaceMeets w)
history_place_one w = single_value _
