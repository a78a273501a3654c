-- One answer only: any two results that meet a contract of this crate are equal. Assumes nothing.
use Prim.Native.Nat.{ℕ}
use mathlib.Core.Path.{sym, ◌∙◌}
use mathlib.Core.List.{List}
use Rattle.trees.specs.One.{Single}
use Rattle.trees.specs.Tables.{Pair}
use Rattle.trees.proofs.One.{both}
use Rattle.fills.specs.Promises.{FillMeets}

-- the two tables
pub fill_one : (w : Pair) (p l : List ℕ) → Single (λ (left : List ℕ × List ℕ). FillMeets w p l left.0 left.1)
fill_one w p l a b f g = both a b (f.places ∙ sym g.places) (f.labels ∙ sym g.labels)
