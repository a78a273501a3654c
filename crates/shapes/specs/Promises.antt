-- What the functions of this crate promise.
--   WantedMeets t r   <-> r is how many children a node with taxon t has in a sound tree
--   PairedMeets k r   <-> r is rule 3 at a node with k children
--   MarkedMeets k t r <-> r is rule 4 at a node with k children and taxon t
--   JudgeShapeMeets tree par tax r <-> r is the first of rules 2, 38, 3 and 4 of that tree that fails, at its lowest node, else `Ok`
-- Assumes nothing.
use Rattle.std.specs.Prelude.{ℕ, ◌≡◌, Bool, List}
use Rattle.trees.specs.Rulings.{verdict}
use Rattle.trees.specs.Rules.{shape_rules}
use Rattle.trees.specs.Answers.{judged_of}
use Rattle.trees.specs.Answers.{Judged}
use Rattle.shapes.specs.Counts.{is_paired, is_marked, wanted_count}

abbrev pub WantedMeets : ℕ → ℕ → Type 0
WantedMeets t r = r ≡ wanted_count t

abbrev pub PairedMeets : ℕ → Bool → Type 0
PairedMeets k r = r ≡ is_paired k

abbrev pub MarkedMeets : ℕ → ℕ → Bool → Type 0
MarkedMeets k t r = r ≡ is_marked k t

abbrev pub JudgeShapeMeets : ℕ → List ℕ → List ℕ → Judged → Type 0
JudgeShapeMeets tree par tax r = judged_of r ≡ verdict (shape_rules tree par tax)
