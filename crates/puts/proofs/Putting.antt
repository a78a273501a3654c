-- Words put into an image: what each changes in its contents, and a table put word by word. Assumes nothing.
use Prim.Native.Nat.{ℕ, suc, ◌+◌, ◌*◌, ◌/◌, ◌%◌, ◌<◌, ◌≤◌}
use native.Mathlib.Omega.{arith}
use native.Mathlib.Nat.{add-zero}
use native.Mathlib.Numerals.{add-one}
use native.Mathlib.Decide.{ℕ_discrete}
use mathlib.Core.Path.{◌≡◌, refl, sym, ap, ap₂, ◌∙◌}
use Rattle.std.proofs.Common.{mul-le-mul_left}
use Rattle.std.proofs.lemmas.List.{take_more}
use mathlib.Core.Logic.{◌≢◌}
use mathlib.Core.List.{List, [], ◌∷◌, ◌++◌}
use lib.ListN.{length, get_or, take, set, replicate, length-set, length-replicate, replicate-append-replicate}
use lib.Seq.{sets, take_all, length-take-le, get_or-set_same, get_or-set_other, ext_get_or}
use Rattle.blocks.specs.Halves.{halves, low_high_lem}
use Rattle.blocks.specs.Blocks.{contents, count, content}
use Rattle.words.specs.Words.{offset, after, Within}
use Rattle.puts.specs.Puts.{stored, puts, PutLaws}
use Rattle.blocks.proofs.Blocks.{length_contents}
use Rattle.words.proofs.Words.{after_offset, offset_in, word_contents}
use Rattle.puts.proofs.Stored.{stored_same, stored_other}

-- ---- a word put

-- two words share no byte
apart : (i j b c : ℕ) → i ≢ j → b < 2 → c < 2 → offset j + c ≢ offset i + b
unfolding offset
apart i j b c d h k e =
    let p : i / 253 ≡ j / 253 = omega (arith, ap (λ (x : ℕ). x / 512) e) in
    let q : i % 253 ≡ j % 253 = omega (arith, ap (λ (x : ℕ). x % 512) e) in
    d (omega arith)

-- a word put into the image is put into its contents
contents_stored : (n : ℕ) (s : List ℕ) (i w : ℕ) → 512 * n ≤ length s → i < 253 * n → contents n (stored s (offset i) w) ≡ set (contents n s) i w
contents_stored n s i w h l =
    ext_get_or 0 (contents n t) (set (contents n s) i w) (length_contents n t long ∙ sym (length-set (contents n s) i w ∙ length_contents n s h))
    (λ j b. at j (rw (length_contents n t long) at b) (ℕ_discrete i j))
  where
    t : List ℕ
    t = stored s (offset i) w

    long : 512 * n ≤ length t
    long = rw (length-set, length-set) h

    at : (j : ℕ) → j < 253 * n → Dec (i ≡ j) → get_or (contents n t) j 0 ≡ get_or (set (contents n s) i w) j 0
    at j b (yes e) =
        rw (← e) (word_contents n t i long l ∙ stored_same s (offset i) w (omega (arith, offset_in n i l)) ∙ sym (get_or-set_same (contents n s) i w 0 (rw (length_contents n s h) l)))
    at j b (no d) = word_contents n t j long b ∙ stored_other s (offset i) (offset j) w (omega (arith, apart i j 0 0 d (omega arith) (omega arith))) (omega (arith, apart i j 1 0 d (omega arith) (omega arith))) (omega (arith, apart i j 0 1 d (omega arith) (omega arith))) ∙ sym (word_contents n s j h b) ∙ sym (get_or-set_other (contents n s) i j w 0 (omega arith))

-- ---- words put

pub length_puts : (s : List ℕ) (i : ℕ) (l : List ℕ) → length (puts s i l) ≡ length s
unfolding puts
length_puts s i [] = refl
length_puts s i (w ∷ l) = length_puts (stored s (offset i) w) (suc i) l ∙ length-set (set s (offset i) (w % 256)) _ _ ∙ length-set s (offset i) (w % 256)

pub puts_append : (s : List ℕ) (i : ℕ) (l m : List ℕ) → puts s i (l ++ m) ≡ puts (puts s i l) (i + length l) m
unfolding puts
puts_append s i [] m = rw add-zero
puts_append s i (w ∷ l) m =
    let e : i + suc (length l) ≡ suc i + length l = omega arith in
    rw e (puts_append (stored s (offset i) w) (suc i) l m)

contents_puts : (n : ℕ) (s : List ℕ) (i : ℕ) (l : List ℕ) → 512 * n ≤ length s → i + length l ≤ 253 * n → contents n (puts s i l) ≡ sets (contents n s) i l
unfolding puts
contents_puts n s i [] h k = refl
contents_puts n s i (w ∷ l) h k =
    contents_puts n (stored s (offset i) w) (suc i) l (rw (length-set, length-set) h) (omega arith)
    ∙ ap (λ c. sets c (suc i) l) (contents_stored n s i w h (omega arith))

-- words put into an image are put into its contents, in their order
pub content_puts : (s : List ℕ) (i : ℕ) (l : List ℕ) → Within s i (length l) → content (puts s i l) ≡ sets (content s) i l
content_puts s i l h = rw length_puts (contents_puts (count s) s i l (omega arith) h.room)

-- ---- words put one by one

-- image is old with the words `done` put from word i on
pub record Putting (old : List ℕ) (i : ℕ) (image done : List ℕ) : Type 0 where
  pub same : length image ≡ length old
  pub is : image ≡ puts old i done

pub putting_start : (s : List ℕ) (i : ℕ) → Putting s i s []
unfolding puts
putting_start s i = record { same = refl; is = refl }

-- one word more, at the byte where it stands
putting_more : (s : List ℕ) (i : ℕ) (m n l : List ℕ) (k at w : ℕ) → Putting s i m l → length l ≡ k → at ≡ offset (i + k) → n ≡ stored m at w → Putting s i n (l ++ w ∷ [])
unfolding puts
putting_more s i m n l k at w p e f g =
    record {
      same = ap length g ∙ length-set (set m at (w % 256)) (at + 1) (w / 256) ∙ length-set m at (w % 256) ∙ p.same;
      is = g ∙ rw (p.is, f, ← e) (sym (puts_append s i l (w ∷ [])));
    }

module _ (s : List ℕ) (i : ℕ) (m n : List ℕ) (k at : ℕ) where
  pub putting_zero : Putting s i m (replicate k 0) → at ≡ offset (i + k) → n ≡ stored m at 0 → Putting s i n (replicate (k + 1) 0)
  putting_zero p e g = rw (← replicate-append-replicate {A = ℕ} k 1 0) (putting_more s i m n (replicate k 0) k at 0 p (length-replicate k 0) e g)

-- ---- an entry put: its words, from the one at byte `at` on

module _ (m n : List ℕ) (i at : ℕ) (e : at ≡ offset i) where
  pub put_one : (w : ℕ) → n ≡ stored m at w → n ≡ puts m i (w ∷ [])
  unfolding puts
  put_one w f = f ∙ ap (λ b. stored m b w) e

  pub put_two : (x : ℕ) → n ≡ stored (stored m at (x % 65536)) (after at) (x / 65536) → n ≡ puts m i (low_high_lem (x ∷ []))
  unfolding puts halves
  put_two x f =
      let z : after at ≡ offset (suc i) = ap after e ∙ after_offset i ∙ rw add-one refl in
      f ∙ ap₂ (λ (a b : ℕ). stored (stored m a (x % 65536)) b (x / 65536)) e z

-- ---- a table put entry by entry

module _ (s : List ℕ) (i : ℕ) (m : List ℕ) where
  -- there is room for the entry behind k
  pub room_for : (size n k : ℕ) → k < n → Within s i (size * n) → length m ≡ length s → Within m (i + size * k) size
  room_for size n k h w e =
      let d : count m ≡ count s = ap (λ (n : ℕ). n / 512) e in
      let p : size * (k + 1) ≤ size * n = mul-le-mul_left size (omega arith) in
      record { room = omega (arith, w.room, d, p) }

  module _ {E : Type 0} {size : ℕ} {words : List E → List ℕ} (laws : PutLaws size words) (l : List E) (k : ℕ) where
    pub putting_entry : (n : List ℕ) (x : E) → k < length l → x ≡ get_or l k x → Putting s i m (words (take k l)) → n ≡ puts m (i + size * k) (words (x ∷ [])) → Putting s i n (words (take (k + 1) l))
    putting_entry n x h e p f =
        let more : take (k + 1) l ≡ take k l ++ x ∷ [] = take_more l k x h ∙ ap (λ y. take k l ++ y ∷ []) (sym e) in
        let long : length (words (take k l)) ≡ size * k = laws.many (take k l) ∙ ap (λ n. size * n) (length-take-le k l (omega arith)) in
        record {
          same = ap length f ∙ length_puts m (i + size * k) (words (x ∷ [])) ∙ p.same;
          is = f ∙ rw (p.is, ← long) (sym (puts_append s i (words (take k l)) (words (x ∷ [])))) ∙ ap (puts s i) (sym (laws.both (take k l) (x ∷ [])) ∙ ap words (sym more));
        }

    pub putting_end : length l ≤ k → Putting s i m (words (take k l)) → m ≡ puts s i (words l)
    putting_end h p = p.is ∙ ap (λ t. puts s i (words t)) (take_all k l h)
