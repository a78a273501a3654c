-- What the public function promises, of the contents at entry, the answer, and the final content of the lent buffer.
--   WriteImageMeets w places labels image r left <-> r and left are the outcome of the write (`write` in families)
-- Assumes nothing.
use Rattle.std.specs.Prelude.{ℕ, ◌≡◌, List}
use Rattle.trees.specs.Tables.{Pair}
use Rattle.families.specs.Writing.{Writing, write}
use Rattle.writing.specs.Answers.{written_of}
use Rattle.writing.specs.Answers.{Written}

abbrev pub WriteImageMeets : Pair → List ℕ → List ℕ → List ℕ → Written → List ℕ → Type 0
WriteImageMeets w places labels image r left =
    ◌≡◌ {A = Writing} (record { answer = written_of r; image = left }) (write w places labels image)
