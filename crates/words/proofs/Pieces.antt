-- Pieces: the entries of a table among bytes side by side, what a loop notes of them, and the piece of an image that lies in one block.
-- Assumes nothing.
use Prim.Native.Nat.{ℕ, ◌+◌, ◌-◌, ◌*◌, ◌%◌, ◌<◌, ◌≤◌}
use native.Mathlib.Omega.{arith}
use native.Mathlib.Numerals.{add-one}
use mathlib.Core.Path.{◌≡◌, refl, sym, ◌∙◌}
use mathlib.Core.Bool.{Bool, true, false, ◌&&◌}
use mathlib.Core.List.{List}
use lib.ListN.{length, get_or, take, drop, drop_of_length-le}
use lib.Seq.{drop-cons, get_or-take, get_or-drop, ext_get_or}
use lib.Dec.{eqb}
use Rattle.trees.specs.Lists.{all}
use Rattle.blocks.specs.Halves.{words_of}
use Rattle.blocks.specs.Blocks.{run, count, content}
use Rattle.blocks.specs.Image.{blank}
use Rattle.words.specs.Words.{offset, Within}
use Rattle.blocks.proofs.Halves.{length_joined, get_or_joined, length_run}
use Rattle.words.proofs.Words.{offset_in}
use Rattle.words.proofs.Tables.{length_words_in, word_read}

-- ---- bytes that are all zero

-- the first k bytes tested: what was noted and the bytes that are left decide
abbrev pub Tested : List ℕ → Bool → ℕ → Type 0
Tested b noted k = noted && blank (drop k b) ≡ blank b

pub tested_more : (b : List ℕ) (noted : Bool) (k : ℕ) → k < length b → Tested b noted k → Tested b (noted && eqb (get_or b k 0) 0) (k + 1)
unfolding blank all
tested_more b noted k h t = and_assoc noted (eqb (get_or b k 0) 0) (blank (drop (k + 1) b)) ∙ rw add-one (rw (drop-cons b k 0 h) at t)
  where
    and_assoc : (p q r : Bool) → (p && q) && r ≡ p && (q && r)
    and_assoc true q r = refl
    and_assoc false q r = refl

pub tested_end : (b : List ℕ) (noted : Bool) (k : ℕ) → length b ≤ k → Tested b noted k → noted ≡ blank b
unfolding blank all
tested_end b noted k h t = sym (and_true noted) ∙ (rw (drop_of_length-le b {i = k} h) at t)
  where
    and_true : (b : Bool) → b && true ≡ b
    and_true true = refl
    and_true false = refl

-- ---- a piece of an image

-- in a block the words stand two bytes apart
offset_line : (i m v : ℕ) → i % 253 + m ≤ 253 → v < m → offset (i + v) ≡ offset i + 2 * v
unfolding offset
offset_line i m v g h = omega arith

module _ (s : List ℕ) (i m : ℕ) (h : Within s i m) (p : 0 < m) (g : i % 253 + m ≤ 253) where
  -- the last of them ends within the image
  pub piece_in : offset i + 2 * m ≤ length s
  piece_in =
      let d : i + (m - 1) < 253 * count s = omega (arith, h.room) in
      omega (arith, offset_in (count s) (i + (m - 1)) d, offset_line i m (m - 1) g (omega arith))

  piece_length : length (run (offset i) (2 * m) s) ≡ 2 * m
  piece_length = length_run (offset i) (2 * m) s piece_in

  piece_word : (v : ℕ) → v < m → get_or (words_of (run (offset i) (2 * m) s)) v 0 ≡ get_or (run i m (content s)) v 0
  piece_word v l =
      let e : offset i + (2 * v + 1) ≡ offset i + 2 * v + 1 = omega arith in
      word_read s i m v (offset i + 2 * v) _ h l (sym (offset_line i m v g l))
      (rw (
        get_or_joined 256 m (run (offset i) (2 * m) s) v piece_length,
        get_or-take (2 * m) (drop (offset i) s) (2 * v) 0 (omega arith),
        get_or-take (2 * m) (drop (offset i) s) (2 * v + 1) 0 (omega arith),
        get_or-drop (offset i) s (2 * v) 0,
        get_or-drop (offset i) s (2 * v + 1) 0,
        e,
      ))

  -- the words of those bytes are the words of the image
  piece_words : words_of (run (offset i) (2 * m) s) ≡ run i m (content s)
  piece_words =
      let l : length (words_of (run (offset i) (2 * m) s)) ≡ m = length_joined 256 m _ piece_length in
      ext_get_or 0 (words_of (run (offset i) (2 * m) s)) (run i m (content s)) (l ∙ sym (length_words_in s i m h)) (λ v b. piece_word v (rw l at b))

  -- the bytes as code takes them
  pub piece_taken : (a : ℕ) → a ≡ offset i → (length (take (a + 2 * m - a) (drop a s)) ≡ 2 * m) × (words_of (take (a + 2 * m - a) (drop a s)) ≡ run i m (content s)) × (take (a + 2 * m - a) (drop a s) ≡ run (offset i) (2 * m) s)
  piece_taken a e =
      let z : a + 2 * m - a ≡ 2 * m = omega arith in
      rw (z, e) (piece_length, piece_words, refl)
