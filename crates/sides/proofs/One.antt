-- One answer only: any two results that meet a contract of this crate are equal. Assumes nothing.
use Prim.Native.Nat.{ℕ}
use mathlib.Core.List.{List, [], ◌∷◌}
use lib.ListN.{length}
use Rattle.trees.specs.One.{Single}
use Rattle.trees.specs.Rulings.{each, verdict}
use Rattle.trees.specs.Answers.{judged_of}
use Rattle.trees.proofs.Answers.{judged_one}
use Rattle.trees.proofs.One.{single_view}
use Rattle.sides.specs.Tests.{nested_by, parted_by}
use Rattle.sides.specs.Promises.{JudgeSidesMeets}

pub judge_sides_one : (sp gp pl lb : List ℕ) → Single (JudgeSidesMeets sp gp pl lb)
judge_sides_one sp gp pl lb = single_view judged_of judged_one (verdict (each 10 2 (length gp) (nested_by sp gp pl) ∷ each 11 2 (length gp) (parted_by sp gp pl lb) ∷ []))
