-- A judge's answer is fixed by what it says in the paper's terms. Assumes nothing.
use Prim.Native.Nat.{ℕ}
use mathlib.Core.Bool.{Bool}
use mathlib.Core.Path.{◌≡◌, refl, ap, sym, ◌∙◌}
use Rattle.trees.specs.One.{Single}
use Rattle.trees.specs.Answers.{Judged, judged_of}
use Rattle.trees.specs.Promises.{RefuseMeets, JudgeEachMeets, SlotOfMeets}
use Rattle.trees.specs.Slots.{slot_in}
use Rattle.trees.specs.Rulings.{Ruling, refused_by, Fine}
use Rattle.trees.specs.declared.Refusal.{Refusal}
use Rattle.std.specs.Result.{IsErrAnd}
use Rattle.std.proofs.lemmas.Result.{err_from_is_err_and}
use Rattle.std.specs.Prelude.{Ok, Err}
use Rattle.trees.proofs.Bools.{clash}
use Rattle.trees.proofs.Rulings.{refusal_one}
use Rattle.trees.proofs.One.{single_value}

pub judged_one : (a b : Judged) → judged_of a ≡ judged_of b → a ≡ b
judged_one (Ok _) (Ok _) e = refl
judged_one (Ok _) (Err s) e = clash (cc)
judged_one (Err r) (Ok _) e = clash (cc)
judged_one (Err r) (Err s) e = ap Err (refusal_one r s e)

pub refuse_one : (number tree place : ℕ) → Single (RefuseMeets number tree place)
refuse_one number tree place = single_value (record { number = number; tree = tree; place = place })

pub slot_of_one : (t n : ℕ) → Single (SlotOfMeets t n)
slot_of_one t n = single_value (slot_in t n)

-- of calls that answer by a test
pub judge_each_one : (number tree n : ℕ) (ok : ℕ → Bool) → Single (JudgeEachMeets number tree n (λ i b. b ≡ ok i))
judge_each_one number tree n ok a b p q = judged_one a b (p ok (λ _ _ _ e. e) ∙ sym (q ok (λ _ _ _ e. e)))

-- what the exit of a `?` answers: the refusal that the call before it found
pub refused_on : {e : Refusal} {w : Ruling Fine} (r : Judged) → IsErrAnd r (λ x. x ≡ e) → refused_by e ≡ w → judged_of r ≡ w
refused_on r a q = let p = err_from_is_err_and r a in rw (p.1, p.2) q
