-- What the functions of this crate promise.
--   RefuseMeets number tree place r      <-> r is the refusal with these three
--   JudgeEachMeets number tree n says r  <-> r is the rule of that number that is a test of each of n nodes, if the calls answer by a
--                                            test ok (`says i b`: the call at i may answer b)
--   SlotOfMeets t n r                    <-> r is the slot of the taxon t among n
-- Assumes nothing.
use Rattle.std.specs.Prelude.{ℕ, ◌<◌, ◌≡◌, Bool, [], ◌∷◌}
use Rattle.trees.specs.Rulings.{each, verdict}
use Rattle.trees.specs.Answers.{Judged, judged_of}
use Rattle.trees.specs.Slots.{slot_in}
use Rattle.trees.specs.declared.Refusal.{Refusal}

abbrev pub RefuseMeets : ℕ → ℕ → ℕ → Refusal → Type 0
RefuseMeets number tree place r = r ≡ record { number = number; tree = tree; place = place }

abbrev pub JudgeEachMeets : ℕ → ℕ → ℕ → (ℕ → Bool → Type 0) → Judged → Type 0
JudgeEachMeets number tree n says r =
    (ok : ℕ → Bool) → ((i : ℕ) → i < n → (b : Bool) → says i b → b ≡ ok i) → judged_of r ≡ verdict (each number tree n ok ∷ [])

abbrev pub SlotOfMeets : ℕ → ℕ → ℕ → Type 0
SlotOfMeets t n r = r ≡ slot_in t n
