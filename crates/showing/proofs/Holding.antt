-- Bytes put one after the other, and what is left to put. Assumes nothing.
use Prim.Native.Nat.{ℕ, zero, suc, ◌+◌, ◌-◌, ◌^◌, ◌≤◌, ◌<◌}
use native.Mathlib.Omega.{arith}
use native.Mathlib.Numerals.{add-one}
use mathlib.Core.Path.{◌≡◌, refl, sym, ◌∙◌}
use mathlib.Core.Bool.{true, false}
use mathlib.Core.List.{List, [], ◌∷◌, ◌++◌, map, append_assoc}
use lib.ListN.{length, get_or, set, take, drop, replicate, length-replicate, drop_of_length-le}
use lib.Seq.{sets-eq, drop-cons, take-append_seam}
use borrow.Author.Tests.{lt-ltb, le-ltb}
use Rattle.trees.specs.Lists.{pick}
use Rattle.trees.proofs.Bools.{pick_yes, pick_no}
use Rattle.numbers.specs.Numbers.{decimal}
use Rattle.printing.specs.Printing.{ended}
use Rattle.printing.specs.Putting.{Put}
use Rattle.printing.proofs.Decimal.{decimal_64}
use Rattle.printing.proofs.Putting.{ended_length}
use Rattle.talks.specs.declared.Talk.{Talk}
use Rattle.talks.specs.Promises.{HoldingMeets}
use Rattle.showing.specs.Holding.{Held, held, put_byte_lem, put_bytes_lem}
use Rattle.std.specs.Prelude.{min}
use Rattle.std.proofs.lemmas.List.{get_or-take, length-take-le}
use Rattle.std.proofs.lemmas.Bool.Decides.{nat_tests}
use Rattle.showing.specs.Lines.{spaced, word_bytes, up_to_five_lem, spaced_from, rest_bytes, all_spaced, line_bytes, entry_bytes, entries_from}
use Rattle.showing.specs.declared.Line.{Line}
use Rattle.showing.specs.Promises.{Shown, shown, unspoiled, PutTextMeets}

pub put_append : (h : Held) (a b : List ℕ) → put_bytes_lem h (a ++ b) ≡ put_bytes_lem (put_bytes_lem h a) b
unfolding put_bytes_lem
put_append h [] b = refl
put_append h (x ∷ a) b = put_append (put_byte_lem h x) a b

pub put_one_more : (h : Held) (a : List ℕ) (x : ℕ) → put_bytes_lem h (a ++ x ∷ []) ≡ put_byte_lem (put_bytes_lem h a) x
unfolding put_bytes_lem
put_one_more h a x = put_append h a (x ∷ [])

-- one byte, where there is room for it, and where there is not
pub put_room : (m : List ℕ) (k b : ℕ) → k < 4096 → held (set m (65536 + k) b) (k + 1) ≡ put_byte_lem (held m k) b
unfolding put_byte_lem pick
put_room m k b h = rw (lt-ltb k 4096 h)

pub put_full : (m : List ℕ) (k b : ℕ) → 4096 ≤ k → held (set m 65536 b) 1 ≡ put_byte_lem (held m k) b
unfolding put_byte_lem pick
put_full m k b h = rw (le-ltb k 4096 h)

-- nothing is left
pub text_end : (h : Held) (l : List ℕ) (i : ℕ) → length l ≤ i → put_bytes_lem h (drop i l) ≡ h
unfolding put_bytes_lem
text_end h l i b = rw (drop_of_length-le l b)

-- what is left after one byte more
pub text_turn : (h h' : Held) (l : List ℕ) (i : ℕ) → i < length l → h' ≡ put_byte_lem h (get_or l i 0) → put_bytes_lem h (drop i l) ≡ put_bytes_lem h' (drop (i + 1) l)
unfolding put_bytes_lem
text_turn h h' l i b e = rw (e, add-one i, drop-cons l i 0 b)

-- after one number more of those that go behind spaces
pub spaced_turn : (h h' : Held) (ns : List ℕ) (i n : ℕ) → i < n → h' ≡ put_bytes_lem h (spaced (get_or ns i 0)) → put_bytes_lem h (spaced_from ns i (n - i)) ≡ put_bytes_lem h' (spaced_from ns (i + 1) (n - (i + 1)))
unfolding spaced_from
spaced_turn h h' ns i n b e =
    let k : n - i ≡ suc (n - (i + 1)) = omega arith in
    rw (k, put_append h (spaced (get_or ns i 0)) (spaced_from ns (i + 1) (n - (i + 1))), e)

-- after one entry more of a table
pub entry_turn : {A : Type 0} (f : A → ℕ) (h h' : Held) (l : List A) (i : ℕ) (x : A) → i < length l → get_or l i x ≡ x → h' ≡ put_bytes_lem h (entry_bytes i (f x))
    → put_bytes_lem h (entries_from i (map f (drop i l))) ≡ put_bytes_lem h' (entries_from (i + 1) (map f (drop (i + 1) l)))
unfolding entries_from
entry_turn f h h' l i x b z e =
    let d : map f (drop i l) ≡ f x ∷ map f (drop (i + 1) l) = rw (add-one i, drop-cons l i x b, z) in
    rw (d, put_append h (entry_bytes i (f x)) (entries_from (i + 1) (map f (drop (i + 1) l))), e)

pub spaced_end : (h : Held) (ns : List ℕ) (i n : ℕ) → n ≤ i → put_bytes_lem h (spaced_from ns i (n - i)) ≡ h
unfolding put_bytes_lem spaced_from
spaced_end h ns i n b = let k : n - i ≡ 0 = omega arith in rw k

pub entries_end : {A : Type 0} (f : A → ℕ) (h : Held) (l : List A) (i : ℕ) → length l ≤ i → put_bytes_lem h (entries_from i (map f (drop i l))) ≡ h
unfolding put_bytes_lem entries_from
entries_end f h l i b = rw (drop_of_length-le l b)

-- ---- a line

-- the first k numbers are those of the numbers
spaced_take : (ns : List ℕ) (k i m : ℕ) → i + m ≤ k → spaced_from (take k ns) i m ≡ spaced_from ns i m
unfolding spaced_from
spaced_take ns k i zero h = refl
spaced_take ns k i (suc m) h = rw (get_or-take k ns i 0 (omega arith), spaced_take ns k (i + 1) m (omega arith))

five : (k : ℕ) → min k 5 ≡ up_to_five_lem k
unfolding up_to_five_lem pick
five k = grind (arith, nat_tests)

-- the word, then the numbers
pub whole_line : (h h' h'' : Held) (l : Line) → length l.numbers ≡ 5 → h' ≡ put_bytes_lem h (word_bytes l.refused) → h'' ≡ put_bytes_lem h' (all_spaced (take (min l.count 5) l.numbers))
    → h'' ≡ put_bytes_lem h (line_bytes l)
unfolding line_bytes rest_bytes
whole_line h h' h'' l z e f =
    let k = l.count in
    let ns = l.numbers in
    let n = min k 5 in
    rw (f, e, length-take-le n ns (omega arith), spaced_take ns n 0 n (omega arith), five k) (sym (put_append h (word_bytes l.refused) (rest_bytes ns k)))

-- ---- the digits of a number, taken from the buffer that they are put into

pub numeral_room : (n : ℕ) → n < 2 ^ 64 → 0 + length (ended n 32) ≤ 21
numeral_room n h = omega (arith, ended_length n 32, decimal_64 n h)

module _ {n r : ℕ} {out : List ℕ} (h : n < 2 ^ 64) (X : Put 0 (ended n 32) (replicate 21 0) out r) where
  pub numeral_place : (r ≡ length (decimal n) + 1) × (r ≤ 21)
  numeral_place = (omega (arith, X.place, ended_length n 32), omega (arith, X.place, numeral_room n h))

  pub numeral_taken : take (r - 1) out ≡ decimal n
  unfolding ended
  numeral_taken =
      let l : length {A = ℕ} (replicate 21 0) ≡ 21 = length-replicate {A = ℕ} 21 0 in
      let k : r - 1 ≡ length (decimal n) = omega (arith, numeral_place.0) in
      let e = X.content ∙ sets-eq (ended n 32) (replicate 21 0) 0 (omega (arith, numeral_room n h)) in
      rw (k, e, append_assoc (decimal n) (32 ∷ []) (drop (0 + length (ended n 32)) (replicate 21 0))) (take-append_seam (decimal n) _)

-- ---- the talk and the memory at the end

module _ (m : List ℕ) (talk : Talk) {m' : List ℕ} {r : Talk} (k : ℕ) (bytes : List ℕ) (e : held m' k ≡ put_bytes_lem (held m talk.used) bytes) (f : HoldingMeets talk k r) where
  pub shown_text : PutTextMeets m talk bytes r m'
  unfolding shown
  shown_text = rw (f, ← e)

  pub shown_line : talk.more ≡ true → ◌≡◌ {A = Shown} (record { talk = r; memory = m' }) (unspoiled m talk bytes)
  unfolding unspoiled
  shown_line y = shown_text ∙ sym (pick_yes talk.more (shown m talk bytes) (record { talk = talk; memory = m }) y)

pub shown_spoiled : (m : List ℕ) (talk : Talk) (bytes : List ℕ) → talk.more ≡ false → ◌≡◌ {A = Shown} (record { talk = talk; memory = m }) (unspoiled m talk bytes)
unfolding unspoiled
shown_spoiled m talk bytes y = sym (pick_no talk.more (shown m talk bytes) (record { talk = talk; memory = m }) y)
