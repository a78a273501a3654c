-- One answer only: any two results that meet a contract of this crate are equal. Assumes nothing.
use Prim.Native.Nat.{ℕ}
use mathlib.Core.List.{List}
use Rattle.trees.specs.One.{Single}
use Rattle.trees.proofs.One.{single_value, single_test}
use Rattle.homes.specs.Homes.{homed_by}
use Rattle.homes.specs.Promises.{HomedAtMeets, Housed, AllHomedMeets}

pub homed_at_one : (st gt pl : List ℕ) (g : ℕ) → Single (HomedAtMeets st gt pl g)
homed_at_one st gt pl g = single_value (homed_by st gt pl g)

pub all_homed_one : (st gt pl : List ℕ) → Single (AllHomedMeets st gt pl)
all_homed_one st gt pl = single_test (Housed st gt pl)
