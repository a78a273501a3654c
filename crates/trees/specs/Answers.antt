-- A judge's answer, in the paper's terms.
--   Judged      == what a judge answers
--   judged_of r == accepted for `Ok`; number, tree and place for `Err`
-- Assumes nothing.
use Rattle.std.specs.Prelude.{Result, Ok, Err}
use Rattle.trees.specs.Rulings.{Ruling, accepted, refused_by, Fine, fine}
use Rattle.trees.specs.declared.Refusal.{Refusal}

abbrev pub Judged : Type 0
Judged = Result (Unit {0}) Refusal

abbrev pub judged_of : Judged → Ruling Fine
judged_of (Ok _) = accepted fine
judged_of (Err r) = refused_by r
