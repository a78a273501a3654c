-- One answer only: any two results that meet the contract of this crate are equal. Assumes nothing.
use Rattle.std.specs.Prelude.{Ok, Err}
use Prim.Native.Nat.{ℕ}
use mathlib.Core.Path.{◌≡◌, sym, ap, ◌∙◌}
use mathlib.Core.List.{List}
use Rattle.trees.specs.One.{Single}
use Rattle.trees.specs.Tables.{Pair}
use Rattle.trees.proofs.Bools.{clash}
use Rattle.trees.proofs.One.{both}
use Rattle.trees.proofs.Rulings.{refusal_one}
use Rattle.families.specs.Writing.{Writing}
use Rattle.writing.specs.Answers.{written_of}
use Rattle.writing.specs.Promises.{WriteImageMeets}
use Rattle.writing.specs.Answers.{Written}

written_one : (a b : Written) → written_of a ≡ written_of b → a ≡ b
written_one (Ok n) (Ok m) e = let q : n ≡ m = cc in ap Ok q
written_one (Ok n) (Err s) e = clash (cc)
written_one (Err r) (Ok m) e = clash (cc)
written_one (Err r) (Err s) e = ap Err (refusal_one r s e)

-- the answer and the buffer
pub write_image_one : (w : Pair) (places labels image : List ℕ) → Single (λ (r : Written × List ℕ). WriteImageMeets w places labels image r.0 r.1)
write_image_one w places labels image a b p q =
    let e = p ∙ sym q in
    both a b (written_one a.0 b.0 (ap (λ (x : Writing). x.answer) e)) (ap (λ (x : Writing). x.image) e)
