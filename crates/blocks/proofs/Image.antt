-- Images: words written are read back, an image that passes is the image of its words, and one changed byte is refused by 14. Assumes nothing.
use Rattle.std.proofs.Common.{◌≡◌, ℕ, zero, suc, ◌+◌, ◌-◌, ◌*◌, ◌/◌, ◌%◌, ◌<◌, ◌≤◌, false, ◌&&◌, T, eqb, leb, ◌≢◌, List, [], ◌∷◌, ◌++◌, length, get_or, take, drop, set, replicate, sym, refl, ap, ◌∙◌, ap₂, arith, eqb→eq, leb→le, length-append, length-drop, length-set, take-append-drop, length-take-le, take_all, drop_at, eq-eqb, le-leb}
use lib.ListN.{length-replicate}
use lib.Seq.{drop-set-add, take-set-lt, take-set-le}
use Rattle.trees.specs.Lists.{all}
use Rattle.trees.specs.Rulings.{refused, Rule, whole, each, ruling, number_of, tree_of, Passes, Every, and, done}
use Rattle.trees.proofs.Bools.{and_left, and_right}
use Rattle.trees.proofs.Rulings.{every_head, every_tail, ruling_pass, ruling_fail}
use Rattle.blocks.specs.Halves.{Under}
use Rattle.blocks.specs.Blocks.{run, block, part, checked, numbered, count, content}
use Rattle.blocks.specs.Image.{fewest, filled, image_of, blank, sized, block_rules}
use Rattle.blocks.proofs.Sums.{checked_set}
use Rattle.blocks.proofs.Blocks.{length_part, under_part, get_or_part, length_contents, length_blocks, contents_blocks, part_blocks, blocks_contents, checked_block, numbered_block}
use Rattle.blocks.proofs.Halves.{length_run}

-- ---- the fewest blocks

-- they hold the words, and any number of blocks that holds them is at least as many
pub fewest_holds : (c : ℕ) → c ≤ 253 * fewest c
unfolding fewest
fewest_holds c = omega arith

pub fewest_least : (c n : ℕ) → c ≤ 253 * n → fewest c ≤ n
unfolding fewest
fewest_least c n h = omega arith

-- ---- words and their filling

pub length_filled : (w : List ℕ) → length (filled w) ≡ 253 * fewest (length w)
unfolding filled
length_filled w = length-append w _ ∙ omega (arith, length-replicate {A = ℕ} (253 * fewest (length w) - length w) 0, fewest_holds (length w))

blank_zeros : (n : ℕ) → T (blank (replicate n 0))
unfolding blank all
blank_zeros zero = tt
blank_zeros (suc n) = blank_zeros n

pub blank_filled : (w : List ℕ) → T (blank (drop (length w) (filled w)))
unfolding filled
blank_filled w = rw (drop_at w _ (length w) refl) (blank_zeros (253 * fewest (length w) - length w))

zeros_blank : (l : List ℕ) → T (blank l) → replicate (length l) 0 ≡ l
unfolding blank all
zeros_blank [] t = refl
zeros_blank (x ∷ l) t =
    ap₂ {C = List ℕ} (λ a m. a ∷ m) (sym (eqb→eq x 0 (and_left (eqb x 0) (all (λ y. eqb y 0) l) t))) (zeros_blank l (and_right (eqb x 0) (all (λ y. eqb y 0) l) t))

-- words with nothing but zeros behind the first c are those c, filled
pub filled_take : (c : ℕ) (l : List ℕ) → c ≤ length l → length l ≡ 253 * fewest c → T (blank (drop c l)) → filled (take c l) ≡ l
unfolding filled
filled_take c l h e t =
    rw (length-take-le c l h, ← e, ← length-drop c l) (ap (λ m. take c l ++ m) (zeros_blank (drop c l) t) ∙ take-append-drop c l)

-- ---- what 13, 14 and 15 say

pub record Intact (limit : ℕ) (s : List ℕ) : Type 0 where
  pub some : 1 ≤ count s
  pub few : count s ≤ limit
  pub all : length s ≡ 512 * count s
  pub checks : (k : ℕ) → k < count s → T (checked (part s k))
  pub numbers : (k : ℕ) → k < count s → T (numbered k (part s k))

pub sized_says : (limit : ℕ) (s : List ℕ) → T (sized limit s) → (1 ≤ count s) × (count s ≤ limit) × (length s ≡ 512 * count s)
unfolding sized
sized_says limit s t =
    let r = and_right (leb 1 (length s)) (eqb (length s % 512) 0 && leb (count s) limit) t in
    let a : 1 ≤ length s = leb→le 1 (length s) (and_left (leb 1 (length s)) (eqb (length s % 512) 0 && leb (count s) limit) t) in
    let b : length s % 512 ≡ 0 = eqb→eq (length s % 512) 0 (and_left (eqb (length s % 512) 0) (leb (count s) limit) r) in
    let c : count s ≤ limit = leb→le (count s) limit (and_right (eqb (length s % 512) 0) (leb (count s) limit) r) in
    (omega arith, c, omega arith)

says_sized : (limit : ℕ) (s : List ℕ) → 1 ≤ count s → count s ≤ limit → length s ≡ 512 * count s → T (sized limit s)
unfolding sized
says_sized limit s a b c = rw (le-leb 1 (length s) (omega arith), eq-eqb (length s % 512) 0 (omega arith), le-leb (count s) limit b) tt

pub intact : (limit : ℕ) (s : List ℕ) → Every Passes (block_rules limit s) → Intact limit s
unfolding block_rules
intact limit s e =
    let (a, b, c) = sized_says limit s (every_head e) in
    record { some = a; few = b; all = c; checks = every_head (every_tail e); numbers = every_head (every_tail (every_tail e)) }

pub intact_passes : (limit : ℕ) (s : List ℕ) → Intact limit s → Every Passes (block_rules limit s)
unfolding block_rules
intact_passes limit s i = and (says_sized limit s i.some i.few i.all) (and i.checks (and i.numbers done))

-- ---- written and read back

module _ (w : List ℕ) where
  pub length_image : length (image_of w) ≡ 512 * fewest (length w)
  unfolding image_of
  length_image = length_blocks (fewest (length w)) (filled w) (omega (arith, length_filled w))

  pub count_image : count (image_of w) ≡ fewest (length w)
  count_image = omega (arith, length_image)

  pub content_image : content (image_of w) ≡ filled w
  content_image = rw count_image (unfold image_of in contents_blocks (fewest (length w)) (filled w) (omega (arith, length_filled w)) ∙ take_all (253 * fewest (length w)) (filled w) (omega (arith, length_filled w)))

  part_image : (k : ℕ) → k < fewest (length w) → part (image_of w) k ≡ block k (run (253 * k) 253 (filled w))
  unfolding image_of
  part_image k h = part_blocks (fewest (length w)) k (filled w) (omega (arith, length_filled w)) h

  -- an image passes 13, 14 and 15 wherever its blocks are within the limit
  pub image_intact : (limit : ℕ) → 1 ≤ length w → fewest (length w) ≤ limit → Intact limit (image_of w)
  image_intact limit h k =
      record {
        some = rw count_image (omega (arith, fewest_holds (length w)));
        few = rw count_image k;
        all = rw count_image length_image;
        checks = λ j b. let l = rw count_image at b in rw (part_image j l) (checked_block j _ (length_run (253 * j) 253 (filled w) (omega (arith, length_filled w, l))));
        numbers = λ j b. rw (part_image j (rw count_image at b)) (numbered_block j _);
      }

-- ---- read and written back

-- an image that passes, of as few blocks as c words need and blank behind them, is the image of these words
pub image_words : (limit : ℕ) (s : List ℕ) (c : ℕ) → Under 256 s → Intact limit s → fewest c ≡ count s → T (blank (drop c (content s))) → image_of (take c (content s)) ≡ s
unfolding image_of
image_words limit s c u i e t =
    let l : length (content s) ≡ 253 * count s = length_contents (count s) s (omega (arith, i.all)) in
    let h : c ≤ length (content s) = omega (arith, fewest_holds c) in
    let f : filled (take c (content s)) ≡ content s = filled_take c (content s) h (l ∙ ap (λ n. 253 * n) (sym e)) t in
    rw (f, length-take-le c (content s) h, e) (blocks_contents (count s) s (omega (arith, i.all)) u i.checks i.numbers ∙ take_all (512 * count s) s (omega (arith, i.all)))

-- ---- one changed byte

part_set : (s : List ℕ) (i v : ℕ) → part (set s i v) (i / 512) ≡ set (part s (i / 512)) (i % 512) v
unfolding part
part_set s i v =
    let e : 512 * (i / 512) + i % 512 ≡ i = omega arith in
    let f : drop (512 * (i / 512)) (set s i v) ≡ set (drop (512 * (i / 512)) s) (i % 512) v =
    ap (λ (x : ℕ). drop (512 * (i / 512)) (set s x v)) (sym e) ∙ drop-set-add (512 * (i / 512)) s (i % 512) v
    in
    ap (take 512) f ∙ take-set-lt 512 (drop (512 * (i / 512)) s) (i % 512) v (omega arith)

part_before : (s : List ℕ) (i v k : ℕ) → k < i / 512 → part (set s i v) k ≡ part s k
unfolding part
part_before s i v k h =
    let e : 512 * k + (i - 512 * k) ≡ i = omega arith in
    let f : drop (512 * k) (set s i v) ≡ set (drop (512 * k) s) (i - 512 * k) v =
    ap (λ (x : ℕ). drop (512 * k) (set s x v)) (sym e) ∙ drop-set-add (512 * k) s (i - 512 * k) v
    in
    ap (take 512) f ∙ take-set-le 512 (drop (512 * k) s) (i - 512 * k) v (omega arith)

-- any byte, to any other value: 14 at that block, whatever rules follow
pub changed : {A : Type 0} (limit : ℕ) (s : List ℕ) (i v : ℕ) (rs : List Rule) (a : A) → Under 256 s → Intact limit s → i < length s → v < 256 → v ≢ get_or s i 0 → ruling (block_rules limit (set s i v) ++ rs) a ≡ refused 14 0 (i / 512)
unfolding block_rules number_of tree_of
changed limit s i v rs a u t h k d =
    let b = i / 512 in
    let e : length (set s i v) ≡ length s = length-set s i v in
    let z : 512 * b + i % 512 ≡ i = omega arith in
    let f : checked (part (set s i v) b) ≡ false =
    rw part_set
    (checked_set (part s b) (i % 512) v (length_part s b (omega (arith, t.all))) (under_part 256 s b u) (t.checks b (omega (arith, t.all))) k
    (rw (get_or_part s b (i % 512) (omega arith), z) d) (omega arith))
    in
    ruling_pass (whole 13 0 0 (sized limit (set s i v))) _ a (says_sized limit (set s i v) (rw e t.some) (rw e t.few) (rw e t.all))
    ∙ ruling_fail (each 14 0 (count (set s i v)) (λ j. checked (part (set s i v) j))) _ a b
    (rw e (omega (arith, t.all)), f, λ j l. rw (part_before s i v j l) (t.checks j (omega (arith, t.all))))
