-- One answer only: any two results that meet the contract of this crate are equal. Assumes nothing.
use Rattle.std.specs.Prelude.{Ok, Err}
use Prim.Native.Nat.{ℕ}
use mathlib.Core.Path.{◌≡◌, ap}
use mathlib.Core.List.{List}
use Rattle.trees.specs.One.{Single}
use Rattle.trees.proofs.Bools.{clash}
use Rattle.trees.proofs.One.{single_view}
use Rattle.trees.proofs.Rulings.{refusal_one}
use Rattle.opening.specs.Answers.{opened_of}
use Rattle.opening.specs.Promises.{OpenImageMeets}
use Rattle.opening.specs.Answers.{Opened}

opened_one : (a b : Opened) → opened_of a ≡ opened_of b → a ≡ b
opened_one (Ok n) (Ok m) e = let q : n ≡ m = cc in ap Ok q
opened_one (Ok n) (Err s) e = clash (cc)
opened_one (Err r) (Ok m) e = clash (cc)
opened_one (Err r) (Err s) e = ap Err (refusal_one r s e)

pub open_image_one : (sp st image : List ℕ) → Single (OpenImageMeets sp st image)
open_image_one sp st image = single_view opened_of opened_one _
