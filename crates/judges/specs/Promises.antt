-- What the judges promise: the first rule of 01's order that fails, at its lowest node, else `Ok`.
--   JudgeSpeciesMeets sp st r <-> of the species rules 1, 2, 38, 3, 4 and 5
--   JudgeFamilyMeets w r      <-> of the gene rules 2, 38, 3, 4 and 6
--   JudgePairMeets w r        <-> of the species rules, then the gene rules 1, 2, 38, 3, 4, 6
-- Assumes nothing.
use Rattle.std.specs.Prelude.{ℕ, ◌≡◌, List}
use Rattle.trees.specs.Tables.{Pair}
use Rattle.trees.specs.Rulings.{verdict}
use Rattle.trees.specs.Rules.{species_rules, family_rules, pair_rules}
use Rattle.trees.specs.Answers.{judged_of}
use Rattle.trees.specs.Answers.{Judged}

abbrev pub JudgeSpeciesMeets : List ℕ → List ℕ → Judged → Type 0
JudgeSpeciesMeets sp st r = judged_of r ≡ verdict (species_rules sp st)

abbrev pub JudgeFamilyMeets : Pair → Judged → Type 0
JudgeFamilyMeets w r = judged_of r ≡ verdict (family_rules w)

abbrev pub JudgePairMeets : Pair → Judged → Type 0
JudgePairMeets w r = judged_of r ≡ verdict (pair_rules w)
