-- The words of an image one by one: where each stands. Assumes nothing.
use Prim.Native.Nat.{ℕ, zero, suc, ◌+◌, ◌-◌, ◌*◌, ◌%◌, ◌<◌, ◌≤◌}
use native.Mathlib.Omega.{arith}
use native.Mathlib.Decide.{dec_lt, ℕ_discrete}
use mathlib.Core.Path.{◌≡◌, ap, ◌∙◌}
use mathlib.Core.List.{List}
use lib.ListN.{length, get_or, drop, get_or-append}
use lib.Seq.{get_or-take, get_or-drop, get_or-append-add}
use borrow.Author.Tests.{eq-eqb, ne_eqb}
use Rattle.trees.specs.Lists.{pick}
use Rattle.blocks.specs.Blocks.{run, word, part, inside, contents}
use Rattle.words.specs.Words.{offset, after}
use Rattle.blocks.proofs.Halves.{get_or_joined, length_run}
use Rattle.blocks.proofs.Blocks.{length_part, word_part, length_contents}

-- ---- where a word stands

-- the next word stands two bytes on, or behind the check of this block and the number of the next
pub after_offset : (i : ℕ) → after (offset i) ≡ offset (i + 1)
unfolding pick offset after
after_offset i =
    let spot : offset i % 512 ≡ 2 + 2 * (i % 253) = omega arith in
    elim (ℕ_discrete (i % 253) 252) [
      | yes e ↦ rw (eq-eqb (offset i % 512) 506 (omega arith)) (omega arith)
      | no e ↦ rw (ne_eqb (offset i % 512) 506 (omega arith)) (omega arith)
    ]

pub after_range : (at : ℕ) → (at + 2 ≤ after at) × (after at ≤ at + 8)
unfolding pick after
after_range at =
    elim (ℕ_discrete (at % 512) 506) [
      | yes e ↦ rw (eq-eqb (at % 512) 506 e) (omega arith)
      | no e ↦ rw (ne_eqb (at % 512) 506 e) (omega arith)
    ]

pub offset_in : (n i : ℕ) → i < 253 * n → offset i + 1 < 512 * n
unfolding offset
offset_in n i h = omega arith

word_inside : (b : List ℕ) (i : ℕ) → length b ≡ 512 → i < 253 → get_or (inside b) i 0 ≡ word b (2 + 2 * i)
unfolding inside
word_inside b i h k =
    let p : 2 + 2 * i + 1 ≡ 2 + (2 * i + 1) = omega arith in
    rw (
      get_or_joined 256 253 (run 2 506 b) i (length_run 2 506 b (omega arith)),
      get_or-take 506 (drop 2 b) (2 * i) 0 (omega arith),
      get_or-take 506 (drop 2 b) (2 * i + 1) 0 (omega arith),
      get_or-drop 2 b (2 * i) 0,
      get_or-drop 2 b (2 * i + 1) 0,
      p,
    )

-- word i of the contents is the one that stands there
pub word_contents : (n : ℕ) (s : List ℕ) (i : ℕ) → 512 * n ≤ length s → i < 253 * n → get_or (contents n s) i 0 ≡ word s (offset i)
unfolding contents offset
word_contents zero s i h l = absurd (omega arith)
word_contents (suc n) s i h l =
    let c : length (contents n s) ≡ 253 * n = length_contents n s (omega arith) in
    elim (dec_lt i (253 * n)) [
      | yes k ↦ get_or-append (contents n s) (inside (part s n)) 0 i (rw c k) ∙ word_contents n s i (omega arith) k
      | no k ↦
          let j = i - 253 * n in
          let d : 253 * n + j ≡ i = omega arith in
          let o : 512 * n + (2 + 2 * j) ≡ offset i = omega arith in
          rw (c, d) at (get_or-append-add (contents n s) (inside (part s n)) j 0)
          ∙ word_inside (part s n) j (length_part s n (omega arith)) (omega arith)
          ∙ word_part s n (2 + 2 * j) (omega arith)
          ∙ ap (word s) o
    ]
