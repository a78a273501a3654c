-- What a call leaves in memory that its caller lent.
--   replaced new old == the first entries are new, the rest is as it was                (01, "writes the first q entries .. and nothing after them")
--   zeroed q old     == the first q entries are zero, the rest is as it was             (01, "leaves the first q entries of the four tables zero and the rest unchanged")
--   on_accepted r new old == what a table holds after a call with the ruling r that writes new: the old content if it refused
--                                                                                       (01, "A refusal leaves lent memory .. unchanged")
-- Assumes nothing.
use Rattle.std.specs.Prelude.{ℕ, List, ◌++◌, length, drop, replicate}
use Rattle.trees.specs.Rulings.{Ruling, accepted, refused}

unfoldable pub replaced : List ℕ → List ℕ → List ℕ
replaced new old = new ++ drop (length new) old

unfoldable pub zeroed : ℕ → List ℕ → List ℕ
zeroed q old = replaced (replicate q 0) old

abbrev pub on_accepted : {A : Type 0} → Ruling A → List ℕ → List ℕ → List ℕ
on_accepted (accepted a) new old = replaced new old
on_accepted (refused n t v) new old = old
