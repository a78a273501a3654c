-- The words of an image one by one, by their number among the words of all blocks.
--   offset i           == the byte at which word i stands
--   after at           == the byte at which the word behind the one at `at` stands: a block's check and the next one's number are passed over
--   alike a b c d v    == do the tables a and b agree with c and d at v?
--   agree w i c d v    == do the two tables that stand in the words w from word i on, of one word and of two words an entry, agree with c and d at v?
--   Together i n r     <-> r of the n words from word i on, one or more, stand in the block of word i: all of them, or as many as reach its end
--   Within s i k       <-> s has k words from word i on
--   Comparable s i c d <-> c and d are of one length, and s has two such tables from word i on
-- Assumes nothing.
use Rattle.std.specs.Prelude.{ℕ, ◌+◌, ◌*◌, ◌/◌, ◌%◌, ◌<◌, ◌≤◌, ◌≡◌, ◌⊎◌, Bool, ◌&&◌, List, length, get_or, eqb}
use Rattle.trees.specs.Lists.{pick}
use Rattle.blocks.specs.Halves.{longs_of}
use Rattle.blocks.specs.Blocks.{run, count}

unfoldable pub offset : ℕ → ℕ
offset i = i / 253 * 512 + 2 + 2 * (i % 253)

unfoldable pub after : ℕ → ℕ
after at = pick (eqb (at % 512) 506) (at + 8) (at + 2)

unfoldable pub alike : List ℕ → List ℕ → List ℕ → List ℕ → ℕ → Bool
alike a b c d v = eqb (get_or a v 0) (get_or c v 0) && eqb (get_or b v 0) (get_or d v 0)

abbrev pub agree : List ℕ → ℕ → List ℕ → List ℕ → ℕ → Bool
agree w i c d v = alike (run i (length c) w) (longs_of (run (i + length c) (2 * length c) w)) c d v

pub record Together (i n r : ℕ) : Type 0 where
  pub some : 0 < r
  pub low : r ≤ n
  pub near : i % 253 + r ≤ 253
  pub most : (r ≡ n) ⊎ (i % 253 + r ≡ 253)

pub record Within (s : List ℕ) (i k : ℕ) : Type 0 where
  pub room : i + k ≤ 253 * count s

pub record Comparable (s : List ℕ) (i : ℕ) (c d : List ℕ) : Type 0 where
  pub within : Within s i (3 * length c)
  pub even : length d ≡ length c
