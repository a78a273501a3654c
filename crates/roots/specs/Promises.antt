-- What the functions of this crate promise.
--   parent_rules tree par        == rule 2 of that tree: its two tests
--   InOrderMeets par r           <-> r is yes exactly if the table has parents first
--   JudgeParentsMeets tree par r <-> r is rule 2 of that tree, refused at its lowest node, or at 65,535 for want of a root, else `Ok`
--   JudgeRootsMeets tree par r   <-> r is the first of rules 2 and 38 of that tree that fails, at its lowest node, else `Ok`
-- Assumes nothing.
use Rattle.std.specs.Prelude.{ℕ, ◌≡◌, ◌↔◌, Bool, List, [], ◌∷◌, length, T}
use Rattle.trees.specs.Trees.{none}
use Rattle.trees.specs.First.{ParentsFirst}
use Rattle.trees.specs.Rulings.{Rule, whole, each, verdict}
use Rattle.trees.specs.Rules.{parented, topped, root_rules}
use Rattle.trees.specs.Answers.{judged_of}
use Rattle.trees.specs.Answers.{Judged}

abbrev pub parent_rules : ℕ → List ℕ → List Rule
parent_rules tree par = each 2 tree (length par) (parented par) ∷ whole 2 tree none (topped par) ∷ []

abbrev pub InOrderMeets : List ℕ → Bool → Type 0
InOrderMeets par r = T r ↔ ParentsFirst par

abbrev pub JudgeParentsMeets : ℕ → List ℕ → Judged → Type 0
JudgeParentsMeets tree par r = judged_of r ≡ verdict (parent_rules tree par)

abbrev pub JudgeRootsMeets : ℕ → List ℕ → Judged → Type 0
JudgeRootsMeets tree par r = judged_of r ≡ verdict (root_rules tree par)
