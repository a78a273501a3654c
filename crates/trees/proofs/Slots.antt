-- A slot is one of those that there are. Assumes nothing.
use Prim.Native.Nat.{ℕ, ◌*◌, ◌%◌, ◌<◌}
use native.Mathlib.Omega.{arith}
use native.Mathlib.Nat.{mod-lt, div-lt_iff_lt-mul, mul-lt-mul_of_pos_right}
use Rattle.trees.specs.Slots.{slot_in}

pub slot_below : (t n : ℕ) → 0 < n → slot_in t n < n
unfolding slot_in
slot_below t n h =
    let low : t * 2654435761 % 4294967296 < 4294967296 = mod-lt (t * 2654435761) {m = 4294967296} (omega arith) in
    let less : t * 2654435761 % 4294967296 * n < 4294967296 * n = mul-lt-mul_of_pos_right low h in
    (div-lt_iff_lt-mul {k = 4294967296} (omega arith)).1 (omega (arith, less))
