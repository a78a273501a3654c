-- One answer only: any two results that meet a contract of this crate are equal. Assumes nothing.
use Prim.Native.Nat.{ℕ}
use mathlib.Core.List.{List}
use Rattle.trees.specs.One.{Single}
use Rattle.trees.specs.Tables.{Pair}
use Rattle.trees.proofs.One.{single_value}
use Rattle.rack.proofs.One.{history_one, history_tree_one, history_place_one}
use Rattle.collector.specs.Promises.{PanheronRefusalMeets, PanheronTreeMeets, PanheronPlaceMeets, PanheronDuplicationsMeets, PanheronLossesMeets, PanheronHistoryMeets, PanheronHistoryTreeMeets, PanheronHistoryPlaceMeets}

module _ (image parents taxa : List ℕ) where
  pub panheron_refusal_one : Single (PanheronRefusalMeets image parents taxa)
  panheron_refusal_one = single_value _

  pub panheron_tree_one : Single (PanheronTreeMeets image parents taxa)
  panheron_tree_one = single_value _

  pub panheron_place_one : Single (PanheronPlaceMeets image parents taxa)
  panheron_place_one = single_value _

  pub panheron_duplications_one : Single (PanheronDuplicationsMeets image parents taxa)
  panheron_duplications_one = single_value _

  pub panheron_losses_one : Single (PanheronLossesMeets image parents taxa)
  panheron_losses_one = single_value _

-- the number and the three tables
pub panheron_history_one : (w : Pair) (p l c : List ℕ) → Single (λ (r : ℕ × List ℕ × List ℕ × List ℕ). PanheronHistoryMeets w p l c r.0 r.1 r.2 r.3)
panheron_history_one w p l c = history_one w p l c

pub panheron_history_tree_one : (w : Pair) → Single (PanheronHistoryTreeMeets w)
panheron_history_tree_one w = history_tree_one w

pub panheron_history_place_one : (w : Pair) → Single (PanheronHistoryPlaceMeets w)
panheron_history_place_one w = history_place_one w
