-- The marks: what a blank table and one mark more give. Assumes nothing.
use Prim.Native.Nat.{ℕ, ◌<◌}
use native.Mathlib.Omega.{arith}
use native.Mathlib.Decide.{ℕ_discrete}
use mathlib.Core.Path.{◌≡◌, ◌∙◌}
use mathlib.Core.Bool.{Bool}
use mathlib.Core.List.{List}
use lib.ListN.{length}
use Rattle.roots.specs.Ways.{Reaching, Entries}
use Rattle.marks.specs.Bits.{two_at_lem, Counted, Blank}
use Rattle.marks.specs.Promises.{AddOneMeets}
use Rattle.marks.proofs.Digits.{blank_at, added, adds}
use Rattle.reaches.specs.Knowing.{Knowing}

pub knowing_start : {par : List ℕ} → Entries par → (c : List ℕ) → Blank c → Knowing par c
knowing_start E c b = record { size = b.size; known = λ x h n. absurd (n (blank_at b x (omega (arith, E.few)))) }

pub knowing_turn : {par : List ℕ} (x : ℕ) {c d : List ℕ} → length d ≡ 512 → Reaching par x → Counted c x d → Knowing par c → Knowing par d
knowing_turn x size R N K =
    record { size = size; known = λ y h n. elim (ℕ_discrete y x) [ yes e ↦ rw e R | no m ↦ K.known y h (λ z. n (N.there y m ∙ z)) ] }

-- a node without a mark is marked
pub knowing_more : {par : List ℕ} (x : ℕ) {c d : List ℕ} (r : Bool) → Entries par → x < length par → length d ≡ 512 → Reaching par x → two_at_lem c x ≡ 0 → AddOneMeets c x r d → Knowing par c → Knowing par d
knowing_more x {c} {d} r E h size R e M K = knowing_turn x size R (added c d r x K.size (omega (arith, E.few)) M (adds c d r x e M)) K
