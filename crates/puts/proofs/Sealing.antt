-- Number and check put into a block, and into every block of an image. Assumes nothing.
use Prim.Native.Nat.{ℕ, suc, ◌+◌, ◌-◌, ◌*◌, ◌/◌, ◌%◌, ◌<◌, ◌≤◌}
use native.Mathlib.Omega.{arith}
use native.Mathlib.Numerals.{add-one}
use mathlib.Core.Path.{◌≡◌, refl, sym, ap, ◌∙◌}
use mathlib.Core.List.{List, [], ◌∷◌, ◌++◌, append_assoc, append-nil}
use lib.ListN.{length, take, drop, set, length-drop, drop_of_length-le}
use lib.Seq.{length-take-le, take_at, drop_at, drop-drop, drop-set-lt}
use lib.Dec.{T}
use borrow.Author.Tests.{eq-eqb}
use borrow.Rule.Slice.PartMut.{put_mid, same_len_mid}
use Rattle.trees.proofs.Bools.{true_T}
use Rattle.blocks.specs.Halves.{Under, words_of}
use Rattle.blocks.specs.Blocks.{word, Whole, start, sums, block, blocks, part, checked, numbered, inside, contents, count}
use Rattle.puts.specs.Puts.{stored}
use Rattle.blocks.proofs.Sums.{says_checked}
use Rattle.blocks.proofs.Blocks.{length_block, block_inside, length_part, length_inside, length_contents, length_blocks, blocks_more, part_taken}
use Rattle.puts.proofs.Stored.{length_stored, stored_same, stored_other, take_stored}

-- ---- one block

-- the content lies within the first 508 bytes
inside_front : (b : List ℕ) → words_of (drop 2 (take 508 b)) ≡ inside b
unfolding inside
inside_front [] = refl
inside_front (x ∷ []) = refl
inside_front (x ∷ y ∷ b) = refl

-- b1 is b with its number, b3 is b1 with the sums over b1 as its check
module _ (k x y : ℕ) (b b1 b3 : List ℕ) (n : length b ≡ 512) (e : b1 ≡ stored b 0 k) (f : b3 ≡ stored (stored b1 508 x) 510 y) (p : x ≡ (sums start (take 508 b1)).a) (q : y ≡ (sums start (take 508 b1)).b) where
  n1 : length b1 ≡ 512
  n1 = ap length e ∙ length_stored b 0 k ∙ n

  front : take 508 b3 ≡ take 508 b1
  front = ap (take 508) f ∙ take_stored 508 (stored b1 508 x) 510 y (omega arith) ∙ take_stored 508 b1 508 x (omega arith)

  has_number : T (numbered k b3)
  unfolding numbered
  has_number =
      true_T (eq-eqb (word b3 0) k
      (ap (λ s. word s 0) f ∙ stored_other (stored b1 508 x) 510 0 y (omega arith) (omega arith) (omega arith) ∙ stored_other b1 508 0 x (omega arith) (omega arith) (omega arith)
      ∙ ap (λ s. word s 0) e ∙ stored_same b 0 k (omega arith)))

  has_check : T (checked b3)
  has_check =
      let u : word b3 508 ≡ x = ap (λ s. word s 508) f ∙ stored_other (stored b1 508 x) 510 508 y (omega arith) (omega arith) (omega arith) ∙ stored_same b1 508 x (omega (arith, n1)) in
      let v : word b3 510 ≡ y = ap (λ s. word s 510) f ∙ stored_same (stored b1 508 x) 510 y (rw length_stored (omega (arith, n1))) in
      says_checked b3 (u ∙ p ∙ ap (λ l. (sums start l).a) (sym front)) (v ∙ q ∙ ap (λ l. (sums start l).b) (sym front))

  same_inside : inside b3 ≡ inside b
  unfolding inside
  same_inside =
      let d : drop 2 (stored b 0 k) ≡ drop 2 b = drop-set-lt 2 (set b 0 (k % 256)) 1 (k / 256) (omega arith) ∙ drop-set-lt 2 b 0 (k % 256) (omega arith) in
      sym (inside_front b3) ∙ ap (λ s. words_of (drop 2 s)) front ∙ inside_front b1 ∙ (rw (e, d))

  -- number and check make a block of the content
  pub block_sealed : Under 256 b3 → b3 ≡ block k (inside b)
  block_sealed u =
      let n3 : length b3 ≡ 512 = ap length f ∙ length_stored (stored b1 508 x) 510 y ∙ length_stored b1 508 x ∙ n1 in
      rw (← same_inside) (sym (block_inside b3 n3 u k has_check has_number))

-- ---- all blocks

-- m is s with its first k blocks sealed
pub record Sealing (s m : List ℕ) (k : ℕ) : Type 0 where
  pub low : k ≤ count s
  pub same : length m ≡ length s
  pub is : m ≡ blocks k (contents k s) ++ drop (512 * k) s

pub sealing_start : (s : List ℕ) → Sealing s s 0
unfolding blocks contents
sealing_start s = record { low = omega arith; same = refl; is = refl }

module _ (s m : List ℕ) (k : ℕ) (f : Sealing s m k) (h : k < count s) where
  done : length (blocks k (contents k s)) ≡ 512 * k
  done = length_blocks k (contents k s) (omega (arith, length_contents k s (omega arith)))

  rest : drop (512 * k) m ≡ drop (512 * k) s
  rest = ap (drop (512 * k)) f.is ∙ drop_at (blocks k (contents k s)) (drop (512 * k) s) (512 * k) done

  -- the part that is lent is still the old one
  pub part_lent : take (512 * k + 512 - 512 * k) (drop (512 * k) m) ≡ part s k
  part_lent = rw rest (part_taken s k)

  pub sealing_more : (b : List ℕ) → b ≡ block k (inside (take (512 * k + 512 - 512 * k) (drop (512 * k) m))) → Sealing s (put_mid (512 * k) (512 * k + 512 - 512 * k) m b) (k + 1)
  unfolding contents
  sealing_more b e =
      let w = inside (part s k) in
      let p = blocks k (contents k s) in
      let z : 512 * k + 512 - 512 * k ≡ 512 = omega arith in
      let five : 512 * suc k ≡ 512 * k + 512 = omega arith in
      let lw : length w ≡ 253 = length_inside (part s k) (length_part s k (omega arith)) in
      let g : b ≡ block k w = rw part_lent at e in
      let t : take (512 * k) m ≡ p = ap (take (512 * k)) f.is ∙ take_at p (drop (512 * k) s) (512 * k) done in
      let r : drop 512 (drop (512 * k) m) ≡ drop (512 * suc k) s = ap (drop 512) rest ∙ drop-drop 512 (512 * k) s ∙ ap (λ (x : ℕ). drop x s) (sym five) in
      let i : blocks (suc k) (contents (suc k) s) ≡ p ++ block k w = blocks_more k (contents k s) w (length_contents k s (omega arith)) lw in
      let l : length b ≡ length (take 512 (drop (512 * k) m)) =
      ap length g ∙ length_block k w lw ∙ sym (length-take-le 512 (drop (512 * k) m) (rw length-drop (omega (arith, f.same)))) in
      rw (z, add-one) (record {
        low = omega arith;
        same = same_len_mid (512 * k) 512 m b l ∙ f.same;
        is = rw (t, g, r, i) (sym (append_assoc p (block k w) (drop (512 * suc k) s)));
      })

pub sealing_end : (s m : List ℕ) (k : ℕ) → Whole s → Sealing s m k → count s ≤ k → m ≡ blocks (count s) (contents (count s) s)
sealing_end s m k w f h =
    let e : k ≡ count s = omega (arith, f.low) in
    rw e at f.is ∙ rw (drop_of_length-le s {i = 512 * count s} (omega (arith, w.all))) (append-nil (blocks (count s) (contents (count s) s)))
