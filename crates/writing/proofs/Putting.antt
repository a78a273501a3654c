-- Tables put one behind the other, and the image that comes of it. Assumes nothing.
use Prim.Native.Nat.{ℕ, ◌+◌, ◌-◌, ◌*◌, ◌≤◌}
use native.Mathlib.Omega.{arith}
use native.Mathlib.Nat.{zero-add}
use mathlib.Core.Path.{◌≡◌, refl, sym, ap, ◌∙◌}
use mathlib.Core.List.{List, [], ◌∷◌, ◌++◌, append_assoc, append-nil}
use lib.ListN.{length, length-append, replicate, drop_of_length-le}
use lib.Seq.{sets-eq}
use Rattle.blocks.specs.Halves.{low_high_lem}
use Rattle.blocks.specs.Blocks.{blocks, count, content, Whole}
use Rattle.blocks.specs.Image.{fewest, filled, image_of}
use Rattle.blocks.proofs.Halves.{length_halves}
use Rattle.blocks.proofs.Blocks.{length_contents}
use Rattle.blocks.proofs.Image.{fewest_holds, fewest_least, length_filled}
use Rattle.words.specs.Words.{Within}
use Rattle.puts.specs.Puts.{puts}
use Rattle.puts.proofs.Putting.{length_puts, puts_append, content_puts}
use Rattle.families.specs.Families.{Family, tables_of, family_words, word_count, Even}
use Rattle.families.specs.Writing.{family_image}
use Rattle.families.proofs.Families.{length_words}
use Rattle.writing.specs.Conditions.{ImageRoom}

-- words put behind those that are put already
pub puts_on : (s l m r t : List ℕ) (i j : ℕ) → r ≡ puts s i l → i + length l ≡ j → t ≡ puts r j m → t ≡ puts s i (l ++ m)
puts_on s l m r t i j e h f = f ∙ rw (e, ← h) (sym (puts_append s i l m))

pub length_put : (s l r : List ℕ) (i : ℕ) → r ≡ puts s i l → length r ≡ length s
length_put s l r i e = ap length e ∙ length_puts s i l

-- ---- the tables of a family

pub tables_put : (f : Family) (s a b c : List ℕ) (i : ℕ) → Even f → a ≡ puts s i (f.sp ++ low_high_lem f.st) → b ≡ puts a (i + 3 * length f.sp) (f.gp ++ low_high_lem f.gt)
    → c ≡ puts b (i + 3 * length f.sp + 3 * length f.gp) (f.places ++ f.labels) → c ≡ puts s i (tables_of f)
unfolding tables_of
tables_put f s a b c i e p q r =
    let x = f.sp ++ low_high_lem f.st in
    let y = f.gp ++ low_high_lem f.gt in
    let m : length x ≡ 3 * length f.sp = length-append f.sp (low_high_lem f.st) ∙ omega (arith, length_halves 65536 f.st, e.species) in
    let n : length y ≡ 3 * length f.gp = length-append f.gp (low_high_lem f.gt) ∙ omega (arith, length_halves 65536 f.gt, e.genes) in
    let xy : b ≡ puts s i (x ++ y) = puts_on s x y a b i _ p (ap (λ k. i + k) m) q in
    puts_on s (x ++ y) (f.places ++ f.labels) b c i _ xy (rw (length-append x y, m, n) (omega arith)) r ∙ ap (puts s i) (simp append_assoc)

-- ---- the image of a family

module _ (f : Family) (s : List ℕ) (r : ImageRoom f s) where
  abbrev c : ℕ
  c = word_count (length f.sp) (length f.gp)

  -- bytes as long as s have room for all words of the family
  pub image_within : (m : List ℕ) (i k : ℕ) → length m ≡ length s → i + k ≤ word_count (length f.sp) (length f.gp) → Within m i k
  image_within m i k e h =
      let n : count m ≡ fewest c = omega (arith, r.size) in
      record { room = rw n (omega (arith, fewest_holds c)) }

  pub image_whole : (m : List ℕ) → length m ≡ length s → Whole m
  image_whole m e =
      let n : count m ≡ fewest c = omega (arith, r.size) in
      record { all = rw n (e ∙ r.size); few = rw n (omega (arith, fewest_least c 65536 (omega (arith, r.species_few, r.genes_few)))) }

  module _ (m1 m2 m3 m4 : List ℕ) (e1 : m1 ≡ puts s 0 (1 ∷ length f.sp ∷ length f.gp ∷ [])) (e2 : m2 ≡ puts m1 3 (tables_of f)) (e3 : m3 ≡ puts m2 c (replicate (253 * count m2 - c) 0)) where
    words_put : m2 ≡ puts s 0 (family_words f)
    unfolding family_words
    words_put = puts_on s (1 ∷ length f.sp ∷ length f.gp ∷ []) (tables_of f) m1 m2 0 3 e1 refl e2

    blocks_is : count m2 ≡ fewest (length (family_words f))
    blocks_is = rw (length_words f r.even) (omega (arith, r.size, length_put s (family_words f) m2 0 words_put))

    all_put : m3 ≡ puts s 0 (filled (family_words f))
    unfolding filled
    all_put =
        let l = length_words f r.even in
        puts_on s (family_words f) _ m2 m3 0 c words_put (zero-add _ ∙ l) (e3 ∙ ap (λ n. puts m2 c (replicate (253 * n - c) 0)) blocks_is ∙ ap (λ n. puts m2 c (replicate (253 * fewest (length (family_words f)) - n) 0)) (sym l))

    content_is : content m3 ≡ filled (family_words f)
    content_is =
        let w = filled (family_words f) in
        let n : length w ≡ 253 * count s = length_filled (family_words f) ∙ ap (λ k. 253 * k) (rw (length_words f r.even) (omega (arith, r.size))) in
        let l : length (content s) ≡ 253 * count s = length_contents (count s) s (omega arith) in
        ap content all_put
        ∙ content_puts s 0 w (record { room = omega arith })
        ∙ sets-eq w (content s) 0 (omega arith)
        ∙ ap (λ t. w ++ t) (drop_of_length-le (content s) {i = 0 + length w} (omega arith))
        ∙ append-nil w

    -- put, filled and sealed: the image of the family
    pub image_put : m4 ≡ blocks (count m3) (content m3) → m4 ≡ family_image f
    unfolding image_of
    image_put e4 =
        let n : count m3 ≡ fewest (length (family_words f)) =
        rw (length_words f r.even) (omega (arith, r.size, length_put s (filled (family_words f)) m3 0 all_put)) in
        e4 ∙ ap (blocks (count m3)) content_is ∙ ap (λ k. blocks k (filled (family_words f))) n
