-- One answer only: any two results that meet a contract of this crate are equal. Assumes nothing.
use Prim.Native.Nat.{ℕ}
use mathlib.Core.List.{List}
use Rattle.trees.specs.One.{Single}
use Rattle.sides.proofs.One.{judge_sides_one}
use Rattle.nesting.specs.Promises.{JudgeNestingMeets}

pub judge_nesting_one : (sp gp pl lb : List ℕ) → Single (JudgeNestingMeets sp gp pl lb)
judge_nesting_one sp gp pl lb = judge_sides_one sp gp pl lb
