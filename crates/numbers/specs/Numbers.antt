-- Numbers as text.
--   digit b              == is the byte b a decimal digit, "0" to "9"?
--   value word           == the number that digits spell, the highest first
--   is_number width word == the word is a number of that many bits     (01, "A number is 1 to 10 digits and fits its table's width")
--   decimal n            == the digits of n, the highest first, without leading zeros
-- A byte is its ASCII code: "0" is 48. Assumes nothing.
use Rattle.std.specs.Prelude.{ℕ, zero, suc, ◌+◌, ◌-◌, ◌*◌, ◌/◌, ◌%◌, ◌^◌, Bool, ◌&&◌, List, [], ◌∷◌, ◌++◌, length, ltb, leb}
use Rattle.trees.specs.Lists.{all, pick}

unfoldable pub digit : ℕ → Bool
digit b = leb 48 b && leb b 57

-- the number that digits spell behind digits that spell n
unfoldable pub spelled : ℕ → List ℕ → ℕ
spelled n [] = n
spelled n (b ∷ l) = spelled (10 * n + (b - 48)) l

abbrev pub value : List ℕ → ℕ
value word = spelled 0 word

unfoldable pub is_number : ℕ → List ℕ → Bool
is_number width word = (leb 1 (length word) && leb (length word) 10) && (all digit word && ltb (value word) (2 ^ width))

-- at most k digits; n has no more than n + 1
unfoldable pub digits_of : ℕ → ℕ → List ℕ
digits_of zero n = []
digits_of (suc k) n = pick (ltb n 10) ((48 + n) ∷ []) (digits_of k (n / 10) ++ (48 + n % 10) ∷ [])

unfoldable pub decimal : ℕ → List ℕ
decimal n = digits_of (suc n) n
