-- What is held to be written: the bytes behind the first 65,536 of the memory, 4,096 at the most.
--   Held, held m k     == the memory m, in which k bytes are still to be written
--   put_byte_lem h b   == one byte more; where 4,096 are held they are written, and b is the first held after that
--   put_bytes_lem h bs == the bytes bs, one after the other
-- Assumes nothing.
use Rattle.std.specs.Prelude.{ℕ, ◌+◌, List, [], ◌∷◌, set, ltb}
use Rattle.trees.specs.Lists.{pick}

pub record Held : Type 0 where
  pub memory : List ℕ
  pub used : ℕ

abbrev pub held : List ℕ → ℕ → Held
held m k = record { memory = m; used = k }

unfoldable pub put_byte_lem : Held → ℕ → Held
put_byte_lem h b = pick (ltb h.used 4096) (held (set h.memory (65536 + h.used) b) (h.used + 1)) (held (set h.memory 65536 b) 1)

unfoldable pub put_bytes_lem : Held → List ℕ → Held
put_bytes_lem h [] = h
put_bytes_lem h (b ∷ bs) = put_bytes_lem (put_byte_lem h b) bs
