-- One turn of each loop over a table: the entry that is read, the entry that is put, and the byte at which the next one stands. Assumes nothing.
use Prim.Native.Nat.{ℕ, suc, ◌+◌, ◌*◌, ◌<◌, ◌≤◌}
use native.Mathlib.Omega.{arith}
use native.Mathlib.Numerals.{add-one}
use mathlib.Core.Path.{◌≡◌, refl, sym, ap, ◌∙◌}
use mathlib.Core.List.{List, [], ◌∷◌, ◌++◌, append_assoc}
use lib.ListN.{length, get_or, take, drop, set, length-set}
use lib.Seq.{length-take-le, drop-cons, set-append_seam, take-add, get_or-take, get_or-drop}
use Rattle.blocks.specs.Halves.{longs_of}
use Rattle.blocks.specs.Blocks.{run, word, count, content}
use Rattle.words.specs.Words.{offset, after, Within}
use Rattle.blocks.proofs.Halves.{get_or_joined, length_run}
use Rattle.blocks.proofs.Blocks.{length_contents}
use Rattle.words.proofs.Words.{after_offset, offset_in, word_contents}

-- ---- the next word

pub word_behind : (i k at b : ℕ) → at ≡ offset (i + k) → b ≡ after at → b ≡ offset (i + (k + 1))
word_behind i k at b e f =
    let z : i + (k + 1) ≡ i + k + 1 = omega arith in
    rw (z, f, e) (after_offset (i + k))

pub long_behind : (i k at b c : ℕ) → at ≡ offset (i + 2 * k) → b ≡ after at → c ≡ after b → c ≡ offset (i + 2 * (k + 1))
long_behind i k at b c e f g =
    let z : i + 2 * (k + 1) ≡ i + (2 * k + 1 + 1) = omega arith in
    rw z (word_behind i (2 * k + 1) b c (word_behind i (2 * k) at b e f) g)

-- ---- a table filled from the front

-- out is old with its first k entries those of new
pub record Filling {E : Type 0} (old new out : List E) (k : ℕ) : Type 0 where
  pub low : k ≤ length old
  pub long : length new ≡ length old
  pub same : length out ≡ length old
  pub is : out ≡ take k new ++ drop k old

module _ {E : Type 0} (old new : List E) where
  pub filling_start : length new ≡ length old → Filling old new old 0
  filling_start e = record { low = omega arith; long = e; same = refl; is = refl }

  pub filling_more : (out : List E) (k : ℕ) (v : E) → Filling old new out k → k < length out → take 1 (drop k new) ≡ v ∷ [] → Filling old new (set out k v) (k + 1)
  filling_more out k v f h e =
      let rest = drop (suc k) old in
      let here = get_or old k v in
      let n : length (take k new) ≡ k = length-take-le k new (omega (arith, f.low, f.long)) in
      let lt : k < length old = omega (arith, f.same) in
      let was : out ≡ take k new ++ here ∷ rest = f.is ∙ ap (λ l. take k new ++ l) (drop-cons old k v lt) in
      let put : set (take k new ++ here ∷ rest) k v ≡ take k new ++ v ∷ rest = ap (λ (j : ℕ). set (take k new ++ here ∷ rest) j v) (sym n) ∙ set-append_seam (take k new) here rest v in
      let more : take (k + 1) new ≡ take k new ++ v ∷ [] = take-add k 1 new ∙ ap (λ l. take k new ++ l) e in
      record {
        low = omega arith;
        long = f.long;
        same = length-set out k v ∙ f.same;
        is = ap (λ l. set l k v) was ∙ put ∙ rw (more, add-one) (sym (append_assoc (take k new) (v ∷ []) rest));
      }

-- ---- the entry that is read

module _ (s : List ℕ) where
  pub length_content : length (content s) ≡ 253 * count s
  length_content = length_contents (count s) s (omega arith)

  pub word_content : (i : ℕ) → i < 253 * count s → get_or (content s) i 0 ≡ word s (offset i)
  word_content i h = word_contents (count s) s i (omega arith) h

  -- k words from word i on
  pub length_words_in : (i k : ℕ) → Within s i k → length (run i k (content s)) ≡ k
  length_words_in i k h = length_run i k (content s) (omega (arith, length_content, h.room))

  pub word_in : (i at : ℕ) → i < 253 * count s → at ≡ offset i → at + 1 < length s
  word_in i at h e = omega (arith, offset_in (count s) i h)

  -- both words of an entry of two stand within the image
  pub long_in : (i k at : ℕ) → i + 2 * k + 1 < 253 * count s → at ≡ offset (i + 2 * k) → after at + 1 < length s
  long_in i k at h e = word_in (i + (2 * k + 1)) (after at) (omega arith) (word_behind i (2 * k) at (after at) e refl)

  pub word_read : (i n k at v : ℕ) → Within s i n → k < n → at ≡ offset (i + k) → v ≡ word s at → v ≡ get_or (run i n (content s)) k 0
  word_read i n k at v h l e f =
      f ∙ ap (word s) e ∙ sym (get_or-take n (drop i (content s)) k 0 l ∙ get_or-drop i (content s) k 0 ∙ word_content (i + k) (omega (arith, h.room)))

  pub long_read : (i n k at v : ℕ) → Within s i (2 * n) → k < n → at ≡ offset (i + 2 * k) → v ≡ word s at + 65536 * word s (after at) → v ≡ get_or (longs_of (run i (2 * n) (content s))) k 0
  long_read i n k at v h l e f =
      let low : word s at ≡ get_or (run i (2 * n) (content s)) (2 * k) 0 = word_read i (2 * n) (2 * k) at (word s at) h (omega arith) e refl in
      let high : word s (after at) ≡ get_or (run i (2 * n) (content s)) (2 * k + 1) 0 = word_read i (2 * n) (2 * k + 1) (after at) (word s (after at)) h (omega arith) (word_behind i (2 * k) at (after at) e refl) refl in
      f ∙ rw (low, high) (sym (get_or_joined 65536 n (run i (2 * n) (content s)) k (length_words_in i (2 * n) h)))
