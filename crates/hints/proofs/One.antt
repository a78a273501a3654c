-- One answer only: any two results that meet the contract of a question are equal. Assumes nothing.
use Prim.Native.Nat.{ℕ}
use mathlib.Core.List.{List}
use Rattle.trees.specs.One.{Single}
use Rattle.trees.proofs.One.{single_value}
use Rattle.hints.specs.Hints.{ask_of}
use Rattle.hints.specs.Promises.{AskMeets}

pub ask_one : (st hints : List ℕ) (t : ℕ) → Single (AskMeets st hints t)
ask_one st hints t = single_value (ask_of st hints t)
