-- What the functions answer, in the paper's terms.
--   sums_of c   == the sums A and B that code keeps, as 01 counts them
--   Framed      == what judging the blocks answers: how many there are, or a refusal
--   framed_of r == accepted with the number of blocks for `Ok`; number, tree and place for `Err`
-- Assumes nothing.
use Rattle.std.specs.Prelude.{ℕ, Result, Ok, Err}
use Rattle.trees.specs.Rulings.{Ruling, accepted, refused_by}
use Rattle.trees.specs.declared.Refusal.{Refusal}
use Rattle.blocks.specs.Blocks.{Sums}
use Rattle.blocks.specs.declared.check.Sums as kept

abbrev pub sums_of : kept.Sums → Sums
sums_of c = record { a = c.0; b = c.1 }

abbrev pub Framed : Type 0
Framed = Result ℕ Refusal

abbrev pub framed_of : Framed → Ruling ℕ
framed_of (Ok n) = accepted n
framed_of (Err r) = refused_by r
