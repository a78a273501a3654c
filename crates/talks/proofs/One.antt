-- One answer only: any two results that meet a contract of this crate are equal. Assumes nothing.
use Prim.Native.Nat.{ℕ}
use mathlib.Core.Bool.{true, false}
use Rattle.trees.specs.One.{Single}
use Rattle.trees.proofs.One.{single_value}
use Rattle.talks.specs.Promises.{BeginMeets, SpoilMeets, HoldingMeets}
use Rattle.talks.specs.declared.Talk.{Talk}

pub begin_one : Single BeginMeets
begin_one = single_value (record { at = 0; end = 0; used = 0; more = true })

pub spoil_one : (talk : Talk) → Single (SpoilMeets talk)
spoil_one talk = single_value (record { at = talk.at; end = talk.end; used = talk.used; more = false })

pub holding_one : (talk : Talk) (used : ℕ) → Single (HoldingMeets talk used)
holding_one talk used = single_value (record { at = talk.at; end = talk.end; used = used; more = talk.more })
