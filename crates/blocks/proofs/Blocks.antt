-- Blocks: what was written is read back, and what passes both tests is as it was written. Assumes nothing.
use Rattle.std.proofs.Common.{◌≡◌, ℕ, zero, suc, ◌+◌, ◌-◌, ◌*◌, ◌<◌, ◌≤◌, T, eqb, List, [], ◌∷◌, ◌++◌, length, get_or, take, drop, sym, refl, ap, ◌∙◌, add-zero, arith, eqb→eq, length-append, length-drop, take-append-drop, length-take-le, get_or-drop, take_all, get_or-take, take_at, get_or-append-add, take-add, drop_at, eq-eqb}
use native.Mathlib.Decide.{ℕ_discrete}
use native.Mathlib.Nat.{mod-add-div}
use lib.Seq.{take-append-le, drop-append-le}
use Rattle.trees.proofs.Bools.{true_T}
use Rattle.blocks.specs.Halves.{Under, halves, joined, bytes_of, words_of}
use Rattle.blocks.specs.Blocks.{run, word, start, sums, check, block, blocks, part, checked, numbered, inside, contents}
use Rattle.blocks.proofs.Halves.{under_drop, under_take, under_append, under_joined, length_halves, length_joined, joined_halves, halves_joined, length_run}
use Rattle.blocks.proofs.Sums.{checked_says, says_checked}

-- ---- one block

body_length : (k : ℕ) (w : List ℕ) → length w ≡ 253 → length (bytes_of (k ∷ w)) ≡ 508
body_length k w h = length_halves 256 (k ∷ w) ∙ omega arith

pub length_block : (k : ℕ) (w : List ℕ) → length w ≡ 253 → length (block k w) ≡ 512
unfolding block check
length_block k w h = length-append (bytes_of (k ∷ w)) _ ∙ omega (arith, body_length k w h, length_halves 256 (check (bytes_of (k ∷ w))))

-- the word at an even place behind the body is the word that was put there
behind : (l : List ℕ) (x y : ℕ) → length l ≡ 508 → (word (l ++ bytes_of (x ∷ y ∷ [])) 508 ≡ x) × (word (l ++ bytes_of (x ∷ y ∷ [])) 510 ≡ y)
unfolding halves
behind l x y h =
    let at : (i : ℕ) → get_or (l ++ bytes_of (x ∷ y ∷ [])) (508 + i) 0 ≡ get_or (bytes_of (x ∷ y ∷ [])) i 0 = λ i. rw h at (get_or-append-add l (bytes_of (x ∷ y ∷ [])) i 0) in
    (omega (arith, at 0, at 1), omega (arith, at 2, at 3))

pub checked_block : (k : ℕ) (w : List ℕ) → length w ≡ 253 → T (checked (block k w))
unfolding block check
checked_block k w h =
    let b = bytes_of (k ∷ w) in
    let e = behind b (sums start b).a (sums start b).b (body_length k w h) in
    let t : take 508 (b ++ bytes_of (check b)) ≡ b = take_at b (bytes_of (check b)) 508 (body_length k w h) in
    says_checked (block k w) (e.0 ∙ ap (λ l. (sums start l).a) (sym t)) (e.1 ∙ ap (λ l. (sums start l).b) (sym t))

pub numbered_block : (k : ℕ) (w : List ℕ) → T (numbered k (block k w))
unfolding block numbered halves
numbered_block k w = true_T (eq-eqb _ k (mod-add-div k 256))

inside_block : (k : ℕ) (w : List ℕ) → length w ≡ 253 → inside (block k w) ≡ w
unfolding block inside
inside_block k w h =
    let c = bytes_of (check (bytes_of (k ∷ w))) in
    let e : run 2 506 (bytes_of (k ∷ w) ++ c) ≡ bytes_of w = unfold halves in take_at (bytes_of w) c 506 (length_halves 256 w ∙ omega arith) in
    ap words_of e ∙ joined_halves 256 w

-- ---- the parts of an image

pub length_part : (s : List ℕ) (k : ℕ) → 512 * k + 512 ≤ length s → length (part s k) ≡ 512
unfolding part
length_part s k h = length_run (512 * k) 512 s h

pub under_part : (m : ℕ) (s : List ℕ) (k : ℕ) → Under m s → Under m (part s k)
unfolding part
under_part m s k u = under_take m 512 (drop (512 * k) s) (under_drop m (512 * k) s u)

pub get_or_part : (s : List ℕ) (k i : ℕ) → i < 512 → get_or (part s k) i 0 ≡ get_or s (512 * k + i) 0
unfolding part
get_or_part s k i h = get_or-take 512 (drop (512 * k) s) i 0 h ∙ get_or-drop (512 * k) s i 0

-- the part from a block's start, as code takes it
pub part_taken : (s : List ℕ) (k : ℕ) → take (512 * k + 512 - 512 * k) (drop (512 * k) s) ≡ part s k
unfolding part
part_taken s k = let e : 512 * k + 512 - 512 * k ≡ 512 = omega arith in rw e

pub word_part : (s : List ℕ) (k at : ℕ) → at + 1 < 512 → word (part s k) at ≡ word s (512 * k + at)
word_part s k at h =
    let z : 512 * k + (at + 1) ≡ 512 * k + at + 1 = omega arith in
    rw (get_or_part s k at (omega arith), get_or_part s k (at + 1) h, z)

pub numbered_part : (s : List ℕ) (k w : ℕ) → w ≡ word s (512 * k) → numbered k (part s k) ≡ eqb w k
unfolding numbered
numbered_part s k w e = rw (word_part s k 0 (omega arith), add-zero, e)

part_append : (s t : List ℕ) (k : ℕ) → 512 * k + 512 ≤ length s → part (s ++ t) k ≡ part s k
unfolding part
part_append s t k h = rw (drop-append-le (512 * k) s t (omega arith)) (take-append-le 512 (drop (512 * k) s) t (rw length-drop (omega arith)))

part_last : (s b : List ℕ) (k : ℕ) → length s ≡ 512 * k → length b ≡ 512 → part (s ++ b) k ≡ b
unfolding part
part_last s b k h e = rw (drop_at s b (512 * k) h) (take_all 512 b (omega arith))

-- ---- the contents of an image

pub length_inside : (b : List ℕ) → length b ≡ 512 → length (inside b) ≡ 253
unfolding inside
length_inside b h = length_joined 256 253 _ (length_run 2 506 b (omega arith))

pub length_contents : (n : ℕ) (s : List ℕ) → 512 * n ≤ length s → length (contents n s) ≡ 253 * n
unfolding contents
length_contents zero s h = refl
length_contents (suc n) s h =
    length-append (contents n s) _ ∙ omega (arith, length_contents n s (omega arith), length_inside (part s n) (length_part s n (omega arith)))

pub under_contents : (n : ℕ) (s : List ℕ) → Under 256 s → Under 65536 (contents n s)
unfolding contents inside
under_contents zero s u i = omega arith
under_contents (suc n) s u i =
    under_append 65536 (contents n s) (inside (part s n)) (under_contents n s u)
    (under_joined 256 (run 2 506 (part s n)) (under_take 256 506 (drop 2 (part s n)) (under_drop 256 2 (part s n) (under_part 256 s n u))))
    i

contents_append : (n : ℕ) (s t : List ℕ) → 512 * n ≤ length s → contents n (s ++ t) ≡ contents n s
unfolding contents
contents_append zero s t h = refl
contents_append (suc n) s t h = rw (part_append s t n (omega arith), contents_append n s t (omega arith))

-- ---- written and read back

pub length_blocks : (n : ℕ) (l : List ℕ) → 253 * n ≤ length l → length (blocks n l) ≡ 512 * n
unfolding blocks
length_blocks zero l h = refl
length_blocks (suc n) l h =
    length-append (blocks n l) _ ∙ omega (arith, length_blocks n l (omega arith), length_block n (run (253 * n) 253 l) (length_run (253 * n) 253 l (omega arith)))

-- each part of the image is the block of its words
pub part_blocks : (n k : ℕ) (l : List ℕ) → 253 * n ≤ length l → k < n → part (blocks n l) k ≡ block k (run (253 * k) 253 l)
unfolding blocks
part_blocks zero k l h b = absurd (omega arith)
part_blocks (suc n) k l h b =
    elim (ℕ_discrete k n) [
      | yes e ↦ rw e (part_last (blocks n l) (block n (run (253 * n) 253 l)) n (length_blocks n l (omega arith)) (length_block n _ (length_run (253 * n) 253 l (omega arith))))
      | no e ↦ part_append (blocks n l) _ k (omega (arith, length_blocks n l (omega arith))) ∙ part_blocks n k l (omega arith) (omega arith)
    ]

-- the words of the blocks are the words that were written
pub contents_blocks : (n : ℕ) (l : List ℕ) → 253 * n ≤ length l → contents n (blocks n l) ≡ take (253 * n) l
unfolding blocks contents
contents_blocks zero l h = refl
contents_blocks (suc n) l h =
    let w = run (253 * n) 253 l in
    let d : length (blocks n l) ≡ 512 * n = length_blocks n l (omega arith) in
    let e : contents n (blocks n l ++ block n w) ≡ take (253 * n) l = contents_append n (blocks n l) (block n w) (omega arith) ∙ contents_blocks n l (omega arith) in
    let f : inside (part (blocks n l ++ block n w) n) ≡ w = ap inside (part_last (blocks n l) (block n w) n d (length_block n w (length_run (253 * n) 253 l (omega arith)))) ∙ inside_block n w (length_run (253 * n) 253 l (omega arith)) in
    let z : 253 * suc n ≡ 253 * n + 253 = omega arith in
    rw (e, f, z) (sym (take-add (253 * n) 253 l))

-- ---- read and written back

front_words : (b : List ℕ) → 2 ≤ length b → words_of (take 508 b) ≡ word b 0 ∷ inside b
unfolding joined inside
front_words [] h = absurd (omega arith)
front_words (x ∷ []) h = absurd (omega arith)
front_words (x ∷ y ∷ b) h = refl

four_words : (m : List ℕ) → length m ≡ 4 → words_of m ≡ word m 0 ∷ word m 2 ∷ []
unfolding joined
four_words [] h = absurd (omega arith)
four_words (p ∷ []) h = absurd (omega arith)
four_words (p ∷ q ∷ []) h = absurd (omega arith)
four_words (p ∷ q ∷ r ∷ []) h = absurd (omega arith)
four_words (p ∷ q ∷ r ∷ s ∷ []) h = refl
four_words (p ∷ q ∷ r ∷ s ∷ x ∷ m) h = absurd (omega arith)

-- the bytes of a block are those of its number, its words and its check
module _ (b : List ℕ) (h : length b ≡ 512) (u : Under 256 b) where
  pub front_bytes : bytes_of (word b 0 ∷ inside b) ≡ take 508 b
  front_bytes = rw (← front_words b (omega arith)) (halves_joined 256 254 (take 508 b) (length-take-le 508 b (omega arith)) (under_take 256 508 b u))

  tail_bytes : bytes_of (word b 508 ∷ word b 510 ∷ []) ≡ drop 508 b
  tail_bytes =
      let l : length (drop 508 b) ≡ 4 = length-drop 508 b ∙ omega arith in
      let at : (i : ℕ) → get_or (drop 508 b) i 0 ≡ get_or b (508 + i) 0 = λ i. get_or-drop 508 b i 0 in
      let e : words_of (drop 508 b) ≡ word b 508 ∷ word b 510 ∷ [] = four_words (drop 508 b) l ∙ (rw (at 0, at 1, at 2, at 3)) in
      rw (← e) (halves_joined 256 2 (drop 508 b) l (under_drop 256 508 b u))

  -- a block that passes both tests is the block of its words
  pub block_inside : (k : ℕ) → T (checked b) → T (numbered k b) → block k (inside b) ≡ b
  unfolding block numbered check
  block_inside k c d =
      let f : bytes_of (k ∷ inside b) ≡ take 508 b = rw (← eqb→eq (word b 0) k d) front_bytes in
      rw (f, ← (checked_says b c).0, ← (checked_says b c).1, tail_bytes) (take-append-drop 508 b)

blocks_append : (n : ℕ) (l m : List ℕ) → 253 * n ≤ length l → blocks n (l ++ m) ≡ blocks n l
unfolding blocks
blocks_append zero l m h = refl
blocks_append (suc n) l m h =
    rw (blocks_append n l m (omega arith), drop-append-le (253 * n) l m (omega arith), take-append-le 253 (drop (253 * n) l) m (rw length-drop (omega arith)))

-- one block more, and the words that it holds
pub blocks_more : (n : ℕ) (l w : List ℕ) → length l ≡ 253 * n → length w ≡ 253 → blocks (suc n) (l ++ w) ≡ blocks n l ++ block n w
unfolding blocks
blocks_more n l w h e = rw (drop_at l w (253 * n) h, take_all 253 w (omega arith), blocks_append n l w (omega arith))

-- an image whose blocks all pass is the image of its words
pub blocks_contents : (n : ℕ) (s : List ℕ) → 512 * n ≤ length s → Under 256 s → ((k : ℕ) → k < n → T (checked (part s k))) → ((k : ℕ) → k < n → T (numbered k (part s k))) → blocks n (contents n s) ≡ take (512 * n) s
unfolding contents
blocks_contents zero s h u c d = unfold blocks in refl
blocks_contents (suc n) s h u c d =
    let b = part s n in
    let l : length b ≡ 512 = length_part s n (omega arith) in
    let z : 512 * suc n ≡ 512 * n + 512 = omega arith in
    blocks_more n (contents n s) (inside b) (length_contents n s (omega arith)) (length_inside b l)
    ∙ rw (blocks_contents n s (omega arith) u (λ k m. c k (omega arith)) (λ k m. d k (omega arith)), block_inside b l (under_part 256 s n u) n (c n (omega arith)) (d n (omega arith)), z)
    (unfold part in sym (take-add (512 * n) 512 s))
