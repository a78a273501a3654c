-- What the public function promises, of the contents at entry and the answer.
--   OpenImageMeets sp st image r <-> r is the first of the rack's species 1 to 5 and of 13 to 18 that fails, or the number of gene nodes
-- Assumes nothing.
use Rattle.std.specs.Prelude.{ℕ, ◌≡◌, List}
use Rattle.trees.specs.Rulings.{ruling}
use Rattle.blocks.specs.Blocks.{content}
use Rattle.families.specs.Families.{gene_count}
use Rattle.families.specs.Loading.{open_rules}
use Rattle.opening.specs.Answers.{opened_of}
use Rattle.opening.specs.Answers.{Opened}

abbrev pub OpenImageMeets : List ℕ → List ℕ → List ℕ → Opened → Type 0
OpenImageMeets sp st image r = opened_of r ≡ ruling (open_rules sp st image) (gene_count (content image))
