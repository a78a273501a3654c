-- What opening an image answers, in the paper's terms.
--   Opened      == what opening answers: the number of gene nodes, or a refusal
--   opened_of r == the number of gene nodes, or number, tree and place
-- Assumes nothing.
use Rattle.std.specs.Prelude.{ℕ, Result, Ok, Err}
use Rattle.trees.specs.Rulings.{Ruling, accepted, refused_by}
use Rattle.trees.specs.declared.Refusal.{Refusal}

abbrev pub Opened : Type 0
Opened = Result ℕ Refusal

abbrev pub opened_of : Opened → Ruling ℕ
opened_of (Ok q) = accepted q
opened_of (Err r) = refused_by r
