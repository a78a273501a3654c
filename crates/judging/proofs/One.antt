-- One answer only: any two results that meet the contract of this crate are equal. Assumes nothing.
use Prim.Native.Nat.{ℕ}
use mathlib.Core.List.{List}
use Rattle.trees.specs.One.{Single}
use Rattle.trees.proofs.One.{single_view}
use Rattle.trees.specs.Answers.{judged_of}
use Rattle.trees.proofs.Answers.{judged_one}
use Rattle.judging.specs.Promises.{JudgeImageMeets}

pub judge_image_one : (sp st image : List ℕ) → Single (JudgeImageMeets sp st image)
judge_image_one sp st image = single_view judged_of judged_one _
