-- One answer only: any two results that meet a contract of this crate are equal. Assumes nothing.
use Prim.Native.Nat.{ℕ}
use mathlib.Core.Bool.{Bool}
use mathlib.Core.List.{List}
use Rattle.trees.specs.Lists.{pick}
use Rattle.trees.specs.One.{Single}
use Rattle.trees.proofs.One.{single_value, single_test}
use Rattle.passes.specs.Promises.{AllBelow, NotedMeets, AllBelowMeets}

pub noted_one : (wrong : ℕ) (right : Bool) → Single (NotedMeets wrong right)
noted_one wrong right = single_value (pick right wrong 1)

pub all_below_one : (t : List ℕ) (q b : ℕ) → Single (AllBelowMeets t q b)
all_below_one t q b = single_test (AllBelow t q b)
