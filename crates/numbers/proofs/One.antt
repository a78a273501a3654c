-- One answer only: any two results that meet a contract of this crate are equal. Assumes nothing.
use Prim.Native.Nat.{ℕ}
use mathlib.Core.Path.{◌≡◌, refl, ap₂}
use mathlib.Core.List.{List}
use Rattle.std.specs.Prelude.{Option, Some, None}
use Rattle.trees.specs.One.{Single}
use Rattle.trees.proofs.Bools.{clash}
use Rattle.trees.proofs.One.{single_value, single_view}
use Rattle.numbers.specs.Cursor.{past_blanks, number_from}
use Rattle.numbers.specs.Promises.{number_of, SkipBlanksMeets, ReadNumberMeets}
use Rattle.numbers.specs.declared.Number.{Number}

number_one : (a b : Option Number) → number_of a ≡ number_of b → a ≡ b
number_one (Some m) (Some n) e =
    let v : m.value ≡ n.value = cc in
    let w : m.next ≡ n.next = cc in
    let pair : ℕ → ℕ → Number = λ value next. record { value = value; next = next } in
    ap₂ (λ (value next : ℕ). Some (pair value next)) v w
number_one (Some m) None e = clash (cc)
number_one None (Some n) e = clash (cc)
number_one None None e = refl

pub skip_blanks_one : (text : List ℕ) (at : ℕ) → Single (SkipBlanksMeets text at)
skip_blanks_one text at = single_value (past_blanks text at)

pub read_number_one : (text : List ℕ) (at : ℕ) → Single (ReadNumberMeets text at)
read_number_one text at = single_view number_of number_one (number_from text at)
