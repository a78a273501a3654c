-- A word stored among bytes: it is read back there, and no other word changes. Assumes nothing.
use Prim.Native.Nat.{ℕ, ◌+◌, ◌/◌, ◌%◌, ◌<◌, ◌≤◌}
use native.Mathlib.Omega.{arith}
use mathlib.Core.Path.{◌≡◌, ◌∙◌}
use mathlib.Core.Logic.{◌≢◌}
use mathlib.Core.List.{List}
use lib.ListN.{length, take, set, length-set}
use lib.Seq.{get_or-set_same, get_or-set_other, take-set-le}
use Rattle.blocks.specs.Blocks.{word}
use Rattle.puts.specs.Puts.{stored}

pub length_stored : (s : List ℕ) (at w : ℕ) → length (stored s at w) ≡ length s
length_stored s at w = length-set (set s at (w % 256)) (at + 1) (w / 256) ∙ length-set s at (w % 256)

pub stored_same : (s : List ℕ) (at w : ℕ) → at + 1 < length s → word (stored s at w) at ≡ w
stored_same s at w h =
    rw (
      get_or-set_same (set s at (w % 256)) (at + 1) (w / 256) 0 (rw length-set h),
      get_or-set_other (set s at (w % 256)) (at + 1) at (w / 256) 0 (omega arith),
      get_or-set_same s at (w % 256) 0 (omega arith),
    )
    (omega arith)

pub stored_other : (s : List ℕ) (at j w : ℕ) → j ≢ at → j ≢ at + 1 → j + 1 ≢ at → word (stored s at w) j ≡ word s j
stored_other s at j w a b c =
    rw (
      get_or-set_other (set s at (w % 256)) (at + 1) j (w / 256) 0 b,
      get_or-set_other (set s at (w % 256)) (at + 1) (j + 1) (w / 256) 0 (omega arith),
      get_or-set_other s at j (w % 256) 0 a,
      get_or-set_other s at (j + 1) (w % 256) 0 c,
    )

pub take_stored : (n : ℕ) (s : List ℕ) (at w : ℕ) → n ≤ at → take n (stored s at w) ≡ take n s
take_stored n s at w h = take-set-le n (set s at (w % 256)) (at + 1) (w / 256) (omega arith) ∙ take-set-le n s at (w % 256) h
