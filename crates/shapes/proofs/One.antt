-- One answer only: any two results that meet a contract of this crate are equal. Assumes nothing.
use Prim.Native.Nat.{ℕ}
use mathlib.Core.List.{List}
use Rattle.trees.specs.One.{Single}
use Rattle.trees.specs.Rulings.{verdict}
use Rattle.trees.specs.Rules.{shape_rules}
use Rattle.trees.specs.Answers.{judged_of}
use Rattle.trees.proofs.One.{single_value, single_view}
use Rattle.trees.proofs.Answers.{judged_one}
use Rattle.shapes.specs.Counts.{is_paired, is_marked, wanted_count}
use Rattle.shapes.specs.Promises.{WantedMeets, PairedMeets, MarkedMeets, JudgeShapeMeets}

pub wanted_one : (t : ℕ) → Single (WantedMeets t)
wanted_one t = single_value (wanted_count t)

pub paired_one : (k : ℕ) → Single (PairedMeets k)
paired_one k = single_value (is_paired k)

pub marked_one : (k t : ℕ) → Single (MarkedMeets k t)
marked_one k t = single_value (is_marked k t)

pub judge_shape_one : (tree : ℕ) (par tax : List ℕ) → Single (JudgeShapeMeets tree par tax)
judge_shape_one tree par tax = single_view judged_of judged_one (verdict (shape_rules tree par tax))
