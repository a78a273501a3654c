-- One answer only: any two results that meet the contract of this crate are equal. Assumes nothing.
use Prim.Native.Nat.{ℕ}
use mathlib.Core.List.{List}
use Rattle.trees.specs.One.{Single}
use Rattle.trees.specs.Tables.{Pair}
use Rattle.counts.proofs.One.{count_history_one}
use Rattle.climbs.specs.Promises.{CountClimbsMeets}

pub count_climbs_one : (w : Pair) (places labels : List ℕ) → Single (CountClimbsMeets w places labels)
count_climbs_one w places labels = count_history_one w places labels
