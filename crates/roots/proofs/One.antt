-- One answer only: any two results that meet a contract of this crate are equal. Assumes nothing.
use Prim.Native.Nat.{ℕ}
use mathlib.Core.List.{List}
use Rattle.trees.specs.One.{Single}
use Rattle.trees.specs.First.{ParentsFirst}
use Rattle.trees.specs.Rulings.{verdict}
use Rattle.trees.specs.Rules.{root_rules}
use Rattle.trees.specs.Answers.{judged_of}
use Rattle.trees.proofs.One.{single_view, single_test}
use Rattle.trees.proofs.Answers.{judged_one}
use Rattle.roots.specs.Promises.{parent_rules, InOrderMeets, JudgeParentsMeets, JudgeRootsMeets}

pub in_order_one : (par : List ℕ) → Single (InOrderMeets par)
in_order_one par = single_test (ParentsFirst par)

pub judge_parents_one : (tree : ℕ) (par : List ℕ) → Single (JudgeParentsMeets tree par)
judge_parents_one tree par = single_view judged_of judged_one (verdict (parent_rules tree par))

pub judge_roots_one : (tree : ℕ) (par : List ℕ) → Single (JudgeRootsMeets tree par)
judge_roots_one tree par = single_view judged_of judged_one (verdict (root_rules tree par))
