-- Tables made up of pieces: what is left of a table and its front, a table filled from the front, words that are all zero.
-- Assumes nothing.
use Prim.Native.Nat.{ℕ, zero, suc, ◌+◌, ◌-◌, ◌*◌, ◌<◌, ◌≤◌}
use native.Mathlib.Omega.{arith}
use native.Mathlib.Nat.{add-zero, mul-sub}
use mathlib.Core.Path.{◌≡◌, refl, sym, ap, ap₂, ◌∙◌}
use Rattle.std.proofs.Common.{mul-le-mul_left}
use Rattle.words.proofs.Words.{after_offset}
use mathlib.Core.Bool.{Bool, true, false, ◌&&◌}
use mathlib.Core.List.{List, [], ◌∷◌, ◌++◌, append_assoc, append-nil}
use lib.ListN.{length, get_or, take, drop, set, length-drop, drop_of_length-le, take-append-drop}
use lib.Seq.{length-take-le, length_front, take_all, take_at, drop_at, take-take, take-add, take-nil, drop-drop}
use lib.Dec.{eqb, eqb→eq}
use borrow.Author.Tests.{eq-eqb}
use borrow.Rule.Slice.PartMut.{put_mid}
use Rattle.trees.specs.Lists.{all}
use Rattle.trees.proofs.Bools.{and_left, and_right, true_T, T-same}
use Rattle.blocks.specs.Halves.{joined, words_of, longs_of}
use Rattle.blocks.specs.Blocks.{run, word, content}
use Rattle.blocks.specs.Image.{blank}
use Rattle.words.specs.Words.{offset, after, Within}
use Rattle.words.specs.Passing.{Front}
use Rattle.words.specs.Entries.{EntryLaws}
use Rattle.words.proofs.Entries.{one_long}
use Rattle.words.proofs.Tables.{Filling, word_content, length_content, long_in}

-- ---- what is left of a table, and its front

drop_take : (k n : ℕ) (l : List ℕ) → drop k (take n l) ≡ take (n - k) (drop k l)
drop_take zero n l = ap (λ (x : ℕ). take x l) (let z : n ≡ n - 0 = omega arith in z)
drop_take (suc k) zero l = ap (λ (x : ℕ). take x (drop (suc k) l)) (let z : 0 ≡ 0 - suc k = omega arith in z)
drop_take (suc k) (suc n) [] = sym (take-nil (suc n - suc k))
drop_take (suc k) (suc n) (x ∷ l) = drop_take k n l ∙ (let z : n - k ≡ suc n - suc k = omega arith in rw z)

-- the entries of the words from i on: those from k on, and the first k
module _ {E : Type 0} {size : ℕ} {entries : List ℕ → List E} (laws : EntryLaws size entries) (i n k : ℕ) (l : List ℕ) where
  pub entries_left : entries (run (i + size * k) (size * (n - k)) l) ≡ drop k (entries (run i (size * n) l))
  entries_left =
      rw (laws.rest k (run i (size * n) l), drop_take (size * k) (size * n) (drop i l), drop-drop (size * k) i l, mul-sub size n k) refl

  pub entries_front : k ≤ n → take k (entries (run i (size * n) l)) ≡ entries (run i (size * k) l)
  entries_front h = laws.front k (run i (size * n) l) ∙ ap entries (take-take (size * k) (size * n) (drop i l) (mul-le-mul_left size h))

  -- the same of the bytes of the first k
  pub entries_bytes : (b : List ℕ) → k ≤ n → words_of b ≡ run i (size * k) l → entries (words_of b) ≡ take k (entries (run i (size * n) l))
  entries_bytes b h e = ap entries e ∙ sym (entries_front h)

  -- the first
  pub entries_first : (v : E) → 0 < n → entries (run i size l) ≡ v ∷ [] → take 1 (entries (run i (size * n) l)) ≡ v ∷ []
  entries_first v h e =
      let z : size * 1 ≡ size = omega arith in
      laws.front 1 (run i (size * n) l) ∙ ap entries (take-take (size * 1) (size * n) (drop i l) (mul-le-mul_left size h)) ∙ rw z e

-- all entries from k on, as code takes them
abbrev pub left : {E : Type 0} → ℕ → List E → List E
left k l = take (length l - k) (drop k l)

pub left_is : {E : Type 0} (k : ℕ) (l : List E) → left k l ≡ drop k l
left_is k l = take_all (length l - k) (drop k l) (rw (length-drop k l) (omega arith))

pub length_left : {E : Type 0} (k : ℕ) (l : List E) → length (left k l) ≡ length l - k
length_left k l = ap length (left_is k l) ∙ length-drop k l

-- ---- the front of a table

module _ {E : Type 0} where
  pub front_is : (new old last : List E) (r : ℕ) → 0 < r → r ≤ length old → last ≡ take r new → Front new old (last ++ drop r old) r
  front_is new old last r h l e = record { some = h; low = l; is = rw e }

  -- one entry alone
  pub front_one : (new old : List E) (v : E) → 0 < length old → take 1 new ≡ v ∷ [] → Front new old (set old 0 v) 1
  front_one new [] v h e = absurd (omega arith)
  front_one new (x ∷ old) v h e = record { some = omega arith; low = omega arith; is = sym (ap (λ l. l ++ old) e) }

-- ---- a table filled piece by piece

filling_some : {E : Type 0} (old new out last : List E) (k r : ℕ) → Filling old new out k → Front (drop k new) (left k out) last r → Filling old new (put_mid k (length out - k) out last) (k + r)
filling_some old new out last k r f p =
    let n : length (take k new) ≡ k = length-take-le k new (omega (arith, f.low, f.long)) in
    let t : take k out ≡ take k new = ap (take k) f.is ∙ take_at (take k new) (drop k old) k n in
    let d : drop k out ≡ drop k old = ap (drop k) f.is ∙ drop_at (take k new) (drop k old) k n in
    let q : last ≡ take r (drop k new) ++ drop (k + r) old = p.is ∙ ap (λ l. take r (drop k new) ++ drop r l) (left_is k out ∙ d) ∙ ap (λ l. take r (drop k new) ++ l) (drop-drop r k old) in
    let z : drop (length out - k) (drop k out) ≡ [] = drop_of_length-le (drop k out) {i = length out - k} (rw (length-drop k out) (omega arith)) in
    let low : k + r ≤ length old = omega (arith, p.low, length_left k out, f.same, f.low) in
    let e : put_mid k (length out - k) out last ≡ take (k + r) new ++ drop (k + r) old =
    rw (z, append-nil last, t, q, take-add k r new) (sym (append_assoc (take k new) (take r (drop k new)) (drop (k + r) old)))
    in
    record {
      low = low;
      long = f.long;
      same = ap length e ∙ length_front old (take (k + r) new) (k + r) (length-take-le (k + r) new (omega (arith, f.long)) ∙ sym (length-take-le (k + r) old low));
      is = e;
    }

module _ {E : Type 0} {size : ℕ} {entries : List ℕ → List E} (laws : EntryLaws size entries) (s : List ℕ) (i : ℕ) (old out last : List E) (k r : ℕ) where
  rest : length out ≡ length old → length (left k out) ≡ length old - k
  rest e = length_left k out ∙ ap (λ (n : ℕ). n - k) e

  pub filling_entries : Filling old (entries (run i (size * length old) (content s))) out k → Front (entries (run (i + size * k) (size * length (left k out)) (content s))) (left k out) last r → Filling old (entries (run i (size * length old) (content s))) (put_mid k (length out - k) out last) (k + r)
  filling_entries f p = filling_some old (entries (run i (size * length old) (content s))) out last k r f (rw (rest f.same, entries_left laws i (length old) k (content s)) at p)

-- ---- a number of two words, the second where the next one stands

module _ (s : List ℕ) (i at : ℕ) (w : Within s i 2) (e : at ≡ offset i) where
  pub long_in_words : after at + 1 < length s
  long_in_words = long_in s i 0 at (omega (arith, w.room)) (rw add-zero e)

  pub long_from_word : (v : ℕ) → v ≡ word s at + 65536 * word s (after at) → longs_of (run i 2 (content s)) ≡ v ∷ []
  long_from_word v f =
      let low : word s at ≡ get_or (content s) i 0 = ap (word s) e ∙ sym (word_content s i (omega (arith, w.room))) in
      let high : word s (after at) ≡ get_or (content s) (i + 1) 0 = ap (word s) (ap after e ∙ after_offset i) ∙ sym (word_content s (i + 1) (omega (arith, w.room))) in
      one_long i (content s) v (omega (arith, w.room, length_content s)) (f ∙ ap₂ (λ (x y : ℕ). x + 65536 * y) low high)

-- ---- words that are all zero

blank_words : (n : ℕ) (b : List ℕ) → length b ≡ 2 * n → blank (words_of b) ≡ blank b
unfolding joined blank all
blank_words n [] h = refl
blank_words n (x ∷ []) h = absurd (omega arith)
blank_words zero (x ∷ y ∷ b) h = absurd (omega arith)
blank_words (suc n) (x ∷ y ∷ b) h =
    rw (blank_words n b (omega arith)) (zeros (eqb x 0) (eqb y 0) (blank b) (word_zero x y))
  where
    word_zero : (x y : ℕ) → eqb (x + 256 * y) 0 ≡ eqb x 0 && eqb y 0
    word_zero x y =
        T-same (eqb (x + 256 * y) 0) (eqb x 0 && eqb y 0)
        (λ t. let z = eqb→eq (x + 256 * y) 0 t in rw (eq-eqb x 0 (omega arith), eq-eqb y 0 (omega arith)) tt)
        (λ t. true_T (eq-eqb (x + 256 * y) 0 (omega (arith, eqb→eq x 0 (and_left (eqb x 0) _ t), eqb→eq y 0 (and_right (eqb x 0) _ t)))))

    zeros : (p q r : Bool) {w : Bool} → w ≡ p && q → w && r ≡ p && (q && r)
    zeros true q r e = rw e
    zeros false q r e = rw e

blank_append : (a b : List ℕ) → blank (a ++ b) ≡ blank a && blank b
unfolding blank all
blank_append [] b = refl
blank_append (x ∷ a) b = rw (blank_append a b) (sym (assoc (eqb x 0) (blank a) (blank b)))
  where
    assoc : (p q r : Bool) → (p && q) && r ≡ p && (q && r)
    assoc true q r = refl
    assoc false q r = refl

module _ (l : List ℕ) (k : ℕ) (b : Bool) (p : blank (drop k l) ≡ b) where
  module _ (m : ℕ) (s : List ℕ) (t : Bool) (n : length s ≡ 2 * m) (e : words_of s ≡ run k m l) (f : t ≡ blank s) where
    blank_piece : t && blank (drop (k + m) l) ≡ b
    blank_piece =
        rw (f, ← blank_words m s n, e, ← drop-drop m k l) (sym (blank_append (take m (drop k l)) (drop m (drop k l))) ∙ ap blank (take-append-drop m (drop k l)) ∙ p)

    pub blank_more : t ≡ true → blank (drop (k + m) l) ≡ b
    blank_more z = rw z at blank_piece

    pub blank_fails : t ≡ false → false ≡ b
    blank_fails z = rw z at blank_piece

  pub blank_end : length l ≤ k → true ≡ b
  unfolding blank all
  blank_end h = rw (drop_of_length-le l {i = k} h) at p
