-- What the public function promises, of the contents at entry and the answer.
--   JudgeImageMeets sp st image r <-> r is the first rule of a load but 7 that fails, at its lowest node or block, or `Ok`
-- Assumes nothing.
use Rattle.std.specs.Prelude.{ℕ, ◌≡◌, List}
use Rattle.trees.specs.Rulings.{verdict}
use Rattle.trees.specs.Answers.{judged_of}
use Rattle.trees.specs.Answers.{Judged}
use Rattle.judging.specs.Judging.{image_rules}

abbrev pub JudgeImageMeets : List ℕ → List ℕ → List ℕ → Judged → Type 0
JudgeImageMeets sp st image r = judged_of r ≡ verdict (image_rules sp st image)
