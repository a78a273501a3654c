-- What a load answers, in the paper's terms.
--   stored_of c == p, q, and the duplications and losses of the stored history
--   Loaded      == what a load answers: what the image holds, or a refusal
--   loaded_of r == what the image holds, or number, tree and place
-- Assumes nothing.
use Rattle.std.specs.Prelude.{Result, Ok, Err}
use Rattle.trees.specs.Rulings.{Ruling, accepted, refused_by}
use Rattle.trees.specs.declared.Refusal.{Refusal}
use Rattle.families.specs.Loading.{Contents}
use Rattle.loading.specs.declared.Stored.{Stored}

abbrev pub stored_of : Stored → Contents
stored_of c = record { species = c.species; genes = c.genes; duplications = c.duplications; losses = c.losses }

abbrev pub Loaded : Type 0
Loaded = Result Stored Refusal

abbrev pub loaded_of : Loaded → Ruling Contents
loaded_of (Ok c) = accepted (stored_of c)
loaded_of (Err r) = refused_by r
