-- Words of digits: what they spell, and when they are numbers. Assumes nothing.
use Prim.Native.Nat.{ℕ, zero, suc, ◌+◌, ◌-◌, ◌*◌, ◌^◌, ◌≤◌, ◌<◌}
use native.Mathlib.Omega.{arith}
use native.Mathlib.Nat.{mul-le-mul_left, mul-le-mul_right, mul_assoc, mul_left_comm, pow-succ', one-le-pow}
use mathlib.Core.Path.{◌≡◌, refl}
use mathlib.Core.Bool.{Bool, true, false, ◌&&◌}
use mathlib.Core.List.{List, [], ◌∷◌, ◌++◌}
use lib.ListN.{length}
use lib.Dec.{T, leb, ltb, leb→le, le→leb, ltb→lt}
use borrow.Author.Tests.{le-leb, lt-leb}
use Rattle.trees.specs.Lists.{all}
use Rattle.trees.proofs.Bools.{and_both, and_left, and_right, T_true}
use Rattle.numbers.specs.Numbers.{digit, spelled, value, is_number}

-- ---- digits

pub digit_low : (b : ℕ) → T (digit b) → 48 ≤ b
unfolding digit
digit_low b t = leb→le 48 b (and_left (leb 48 b) (leb b 57) t)

pub digit_high : (b : ℕ) → T (digit b) → b ≤ 57
unfolding digit
digit_high b t = leb→le b 57 (and_right (leb 48 b) (leb b 57) t)

pub is_digit : (b : ℕ) → 48 ≤ b → b ≤ 57 → T (digit b)
unfolding digit
is_digit b l h = and_both (leb 48 b) (leb b 57) (le→leb 48 b l) (le→leb b 57 h)

-- ---- a test of every byte of a word

pub and_false : (b : Bool) → b && false ≡ false
and_false true = refl
and_false false = refl

pub all_head : (p : ℕ → Bool) (x : ℕ) (l : List ℕ) → T (all p (x ∷ l)) → T (p x)
unfolding all
all_head p x l t = and_left (p x) (all p l) t

pub all_tail : (p : ℕ → Bool) (x : ℕ) (l : List ℕ) → T (all p (x ∷ l)) → T (all p l)
unfolding all
all_tail p x l t = and_right (p x) (all p l) t

-- one byte that fails
pub all_fails : (p : ℕ → Bool) (l : List ℕ) (x : ℕ) (m : List ℕ) → p x ≡ false → all p (l ++ x ∷ m) ≡ false
unfolding all
all_fails p [] x m e = rw e
all_fails p (y ∷ l) x m e = rw (all_fails p l x m e) (and_false (p y))

pub all_append : (p : ℕ → Bool) (l m : List ℕ) → T (all p l) → T (all p m) → T (all p (l ++ m))
unfolding all
all_append p [] m s t = t
all_append p (x ∷ l) m s t = and_both (p x) (all p (l ++ m)) (and_left (p x) (all p l) s) (all_append p l m (and_right (p x) (all p l) s) t)

-- ---- the value of a word

spelled_append : (n : ℕ) (l m : List ℕ) → spelled n (l ++ m) ≡ spelled (spelled n l) m
unfolding spelled
spelled_append n [] m = refl
spelled_append n (b ∷ l) m = spelled_append (10 * n + (b - 48)) l m

-- one digit more
pub value_more : (l : List ℕ) (b : ℕ) → value (l ++ b ∷ []) ≡ 10 * value l + (b - 48)
unfolding spelled
value_more l b = spelled_append 0 l (b ∷ [])

-- behind digits that spell n, up to k digits spell less than (n + 1) times 10 to the k
spelled_small : (k n : ℕ) (l : List ℕ) → length l ≤ k → T (all digit l) → spelled n l < (n + 1) * 10 ^ k
unfolding spelled
spelled_small k n [] h t = omega (arith, mul-le-mul_left (n + 1) (one-le-pow k 10 (omega arith)))
spelled_small zero n (b ∷ l) h t = absurd (omega arith)
spelled_small (suc k) n (b ∷ l) h t =
    let d = digit_high b (all_head digit b l t) in
    let m = 10 * n + (b - 48) in
    rw (pow-succ' 10 k)
    (omega (
      arith,
      spelled_small k m l (omega arith) (all_tail digit b l t),
      mul-le-mul_right {m = m + 1} {n = 10 * (n + 1)} (10 ^ k) (omega arith),
      mul_assoc 10 (n + 1) (10 ^ k),
      mul_left_comm 10 (n + 1) (10 ^ k),
    ))

pub value_small : (l : List ℕ) → length l ≤ 10 → T (all digit l) → value l < 10000000000
value_small l h t = omega (arith, spelled_small 10 0 l h t)

-- ---- what makes a word a number

module _ (k : ℕ) (w : List ℕ) where
  pub is_number_fits : 1 ≤ length w → length w ≤ 10 → T (all digit w) → is_number k w ≡ ltb (value w) (2 ^ k)
  unfolding is_number
  is_number_fits a b t = rw (le-leb 1 (length w) a, le-leb (length w) 10 b, T_true {b = all digit w} t)

  pub empty_none : length w ≡ 0 → is_number k w ≡ false
  unfolding is_number
  empty_none e = rw e

  pub long_none : 10 < length w → is_number k w ≡ false
  unfolding is_number
  long_none h = rw (le-leb 1 (length w) (omega arith), lt-leb (length w) 10 h)

  pub odd_none : all digit w ≡ false → is_number k w ≡ false
  unfolding is_number
  odd_none e = rw e (and_false (leb 1 (length w) && leb (length w) 10))

  pub record IsNumber : Type 0 where
    pub some : 1 ≤ length w
    pub few : length w ≤ 10
    pub digits : T (all digit w)
    pub fits : value w < 2 ^ k

  pub number_is : T (is_number k w) → IsNumber
  unfolding is_number
  number_is t =
      let a = leb 1 (length w) in
      let b = leb (length w) 10 in
      let c = all digit w in
      let d = ltb (value w) (2 ^ k) in
      let l = and_left (a && b) (c && d) t in
      let r = and_right (a && b) (c && d) t in
      record {
        some = leb→le 1 (length w) (and_left a b l);
        few = leb→le (length w) 10 (and_right a b l);
        digits = and_left c d r;
        fits = ltb→lt (value w) (2 ^ k) (and_right c d r);
      }
