-- One answer only: any two results that meet a contract of this crate are equal. Assumes nothing.
use Prim.Native.Nat.{ℕ}
use mathlib.Core.List.{List}
use Rattle.trees.specs.One.{Single}
use Rattle.trees.specs.Rulings.{verdict}
use Rattle.trees.specs.Rules.{species_rules, family_rules, pair_rules}
use Rattle.trees.specs.Tables.{Pair}
use Rattle.trees.specs.Answers.{judged_of}
use Rattle.trees.proofs.One.{single_view}
use Rattle.trees.proofs.Answers.{judged_one}
use Rattle.judges.specs.Promises.{JudgeSpeciesMeets, JudgeFamilyMeets, JudgePairMeets}

pub judge_species_one : (sp st : List ℕ) → Single (JudgeSpeciesMeets sp st)
judge_species_one sp st = single_view judged_of judged_one (verdict (species_rules sp st))

pub judge_family_one : (w : Pair) → Single (JudgeFamilyMeets w)
judge_family_one w = single_view judged_of judged_one (verdict (family_rules w))

pub judge_pair_one : (w : Pair) → Single (JudgePairMeets w)
judge_pair_one w = single_view judged_of judged_one (verdict (pair_rules w))
