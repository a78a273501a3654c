-- What a write answers, in the paper's terms.
--   Written      == what a write answers: the number of bytes, or a refusal
--   written_of r == the number of bytes, or number, tree and place
-- Assumes nothing.
use Rattle.std.specs.Prelude.{ℕ, Result, Ok, Err}
use Rattle.trees.specs.Rulings.{Ruling, accepted, refused_by}
use Rattle.trees.specs.declared.Refusal.{Refusal}

abbrev pub Written : Type 0
Written = Result ℕ Refusal

abbrev pub written_of : Written → Ruling ℕ
written_of (Ok n) = accepted n
written_of (Err r) = refused_by r
