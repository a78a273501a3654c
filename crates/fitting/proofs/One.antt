-- One answer only: any two results that meet a contract of this crate are equal. Assumes nothing.
use Prim.Native.Nat.{ℕ}
use mathlib.Core.List.{List, [], ◌∷◌}
use lib.ListN.{length}
use Rattle.trees.specs.One.{Single}
use Rattle.trees.specs.Rulings.{each, verdict}
use Rattle.trees.specs.Answers.{judged_of}
use Rattle.trees.proofs.Answers.{judged_one}
use Rattle.trees.proofs.One.{single_view}
use Rattle.homes.specs.Homes.{homed_by}
use Rattle.fitting.specs.Tests.{fitting_by}
use Rattle.fitting.specs.Promises.{JudgeFittingMeets, JudgeHomesMeets}

pub judge_fitting_one : (p : ℕ) (gt pl lb : List ℕ) → Single (JudgeFittingMeets p gt pl lb)
judge_fitting_one p gt pl lb = single_view judged_of judged_one (verdict (each 8 2 (length gt) (fitting_by p gt pl lb) ∷ []))

pub judge_homes_one : (st gt pl : List ℕ) → Single (JudgeHomesMeets st gt pl)
judge_homes_one st gt pl = single_view judged_of judged_one (verdict (each 9 2 (length gt) (homed_by st gt pl) ∷ []))
