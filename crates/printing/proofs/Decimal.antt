-- The decimal digits of a number. Assumes nothing.
use Prim.Native.Nat.{ℕ, zero, suc, ◌+◌, ◌/◌, ◌%◌, ◌^◌, ◌≤◌, ◌<◌}
use native.Mathlib.Omega.{arith}
use native.Mathlib.Decide.{dec_lt}
use native.Mathlib.Nat.{pow-succ'}
use mathlib.Core.Path.{◌≡◌, ap, ◌∙◌}
use mathlib.Core.Logic.{◌≢◌}
use mathlib.Core.List.{List, [], ◌∷◌, ◌++◌}
use lib.ListN.{length, get_or, length-append, get_or-append}
use lib.Dec.{T}
use borrow.Author.Tests.{lt-ltb, le-ltb}
use Rattle.trees.specs.Lists.{all, pick}
use Rattle.trees.proofs.Bools.{T_true}
use Rattle.numbers.specs.Numbers.{digit, spelled, value, digits_of, decimal}
use Rattle.numbers.proofs.Digits.{is_digit, all_append, value_more}

-- more room for digits than needed changes nothing
digits_same : (k m n : ℕ) → n < k → n < m → digits_of k n ≡ digits_of m n
unfolding digits_of pick
digits_same zero m n a b = absurd (omega arith)
digits_same (suc k) zero n a b = absurd (omega arith)
digits_same (suc k) (suc m) n a b =
    elim (dec_lt n 10) [
      | yes h ↦ rw (lt-ltb n 10 h)
      | no h ↦ rw (le-ltb n 10 (omega arith)) (ap (λ l. l ++ (48 + n % 10) ∷ []) (digits_same k m (n / 10) (omega arith) (omega arith)))
    ]

pub decimal_low : (n : ℕ) → n < 10 → decimal n ≡ (48 + n) ∷ []
unfolding decimal digits_of pick
decimal_low n h = rw (lt-ltb n 10 h)

-- the last digit behind the others
pub decimal_high : (n : ℕ) → 10 ≤ n → decimal n ≡ decimal (n / 10) ++ (48 + n % 10) ∷ []
unfolding decimal digits_of pick
decimal_high n h = rw (le-ltb n 10 h) (ap (λ l. l ++ (48 + n % 10) ∷ []) (digits_same n (suc (n / 10)) (n / 10) (omega arith) (omega arith)))

-- what holds of one digit, and of a number whose digits but the last it holds of, holds of every number
module _ (P : ℕ → List ℕ → Type 0)
    (one : (n : ℕ) → n < 10 → P n ((48 + n) ∷ []))
    (more : (n : ℕ) → 10 ≤ n → P (n / 10) (decimal (n / 10)) → P n (decimal (n / 10) ++ (48 + n % 10) ∷ [])) where
  below : (k n : ℕ) → n < k → P n (decimal n)
  below zero n h = absurd (omega arith)
  below (suc k) n h =
      elim (dec_lt n 10) [
        | yes l ↦ rw (decimal_low n l) (one n l)
        | no l ↦ rw (decimal_high n (omega arith)) (more n (omega arith) (below k (n / 10) (omega arith)))
      ]

  decimal_ind : (n : ℕ) → P n (decimal n)
  decimal_ind n = below (suc n) n (omega arith)

pub decimal_digits : (n : ℕ) → T (all digit (decimal n))
unfolding all
decimal_digits n =
    decimal_ind (λ n l. T (all digit l))
    (λ n h. rw (T_true {b = digit (48 + n)} (is_digit (48 + n) (omega arith) (omega arith))) tt)
    (λ n h t. all_append digit (decimal (n / 10)) ((48 + n % 10) ∷ []) t (rw (T_true {b = digit (48 + n % 10)} (is_digit (48 + n % 10) (omega arith) (omega arith))) tt))
    n

pub decimal_value : (n : ℕ) → value (decimal n) ≡ n
unfolding spelled
decimal_value n =
    decimal_ind (λ n l. value l ≡ n)
    (λ n h. omega arith)
    (λ n h e. value_more (decimal (n / 10)) (48 + n % 10) ∙ omega (arith, e))
    n

pub decimal_some : (n : ℕ) → 1 ≤ length (decimal n)
decimal_some n =
    decimal_ind (λ n l. 1 ≤ length l) (λ n h. omega arith) (λ n h t. omega (arith, length-append (decimal (n / 10)) ((48 + n % 10) ∷ []))) n

-- no leading zero
pub decimal_lead : (n : ℕ) → 0 < n → get_or (decimal n) 0 0 ≢ 48
decimal_lead n =
    decimal_ind (λ n l. 0 < n → get_or l 0 0 ≢ 48)
    (λ n h z e. omega arith)
    (λ n h t z. rw (get_or-append (decimal (n / 10)) ((48 + n % 10) ∷ []) 0 0 (decimal_some (n / 10))) (t (omega arith)))
    n

-- a number below 10 to the k has at most k digits
pub decimal_few : (k n : ℕ) → n < 10 ^ suc k → length (decimal n) ≤ suc k
decimal_few k n =
    decimal_ind (λ n l. (k : ℕ) → n < 10 ^ suc k → length l ≤ suc k)
    (λ n h k f. omega arith)
    (λ n h t k f. fewer n h t k f)
    n k
  where
    fewer : (n : ℕ) → 10 ≤ n → ((k : ℕ) → n / 10 < 10 ^ suc k → length (decimal (n / 10)) ≤ suc k) → (k : ℕ) → n < 10 ^ suc k
        → length (decimal (n / 10) ++ (48 + n % 10) ∷ []) ≤ suc k
    fewer n h t zero f = absurd (omega (arith, pow-succ' 10 0))
    fewer n h t (suc k) f =
        omega (arith, length-append (decimal (n / 10)) ((48 + n % 10) ∷ []), t k (omega (arith, pow-succ' 10 (suc k))))

-- one digit fewer
pub decimal_fewer : (n : ℕ) → 10 ≤ n → length (decimal n) ≡ suc (length (decimal (n / 10)))
decimal_fewer n h = rw (decimal_high n h, length-append (decimal (n / 10)) ((48 + n % 10) ∷ [])) (omega arith)

pub decimal_one : (n : ℕ) → n < 10 → length (decimal n) ≡ 1
decimal_one n h = rw (decimal_low n h)

-- a number of 64 bits has at most 20 digits
pub decimal_64 : (n : ℕ) → n < 2 ^ 64 → length (decimal n) ≤ 20
decimal_64 n h = decimal_few 19 n (omega arith)
