-- Numbers and their halves, at any base: what is split is joined again, and the other way round. And how long a run is. Assumes nothing.
use Rattle.std.proofs.Common.{◌≡◌, ℕ, zero, suc, ◌+◌, ◌*◌, ◌/◌, ◌%◌, ◌<◌, ◌≤◌, List, [], ◌∷◌, ◌++◌, length, get_or, take, drop, refl, ap, ◌∙◌, ap₂, mod-eq_of_lt, mul-le-mul_left, zero-add, arith, length-drop, length-take-le, get_or-drop}
use native.Mathlib.Nat.{mod-add-div, div-eq_of_lt, add-mul-mod_self_left, add-mul-div_left}
use Rattle.blocks.specs.Halves.{Under, halves, joined}
use Rattle.blocks.specs.Blocks.{run}

-- ---- every entry below m

pub under_drop : (m n : ℕ) (l : List ℕ) → Under m l → Under m (drop n l)
under_drop m n l h i = rw get_or-drop (h (n + i))

pub under_take : (m n : ℕ) (l : List ℕ) → Under m l → Under m (take n l)
under_take m zero l h i = omega (arith, h i)
under_take m (suc n) [] h i = h i
under_take m (suc n) (x ∷ l) h zero = h 0
under_take m (suc n) (x ∷ l) h (suc i) = under_take m n l (λ j. h (suc j)) i

pub under_append : (m : ℕ) (a b : List ℕ) → Under m a → Under m b → Under m (a ++ b)
under_append m [] b h k i = k i
under_append m (x ∷ a) b h k zero = h 0
under_append m (x ∷ a) b h k (suc i) = under_append m a b (λ j. h (suc j)) k i

square : (b x y : ℕ) → x < b → y < b → x + b * y < b * b
square b x y h k = omega (arith, mul-le-mul_left b k)

pub under_joined : (b : ℕ) (l : List ℕ) → Under b l → Under (b * b) (joined b l)
unfolding joined
under_joined b [] h i = omega (arith, square b 0 0 (h 0) (h 0))
under_joined b (x ∷ []) h i = omega (arith, square b 0 0 (h 1) (h 1))
under_joined b (x ∷ y ∷ l) h zero = square b x y (h 0) (h 1)
under_joined b (x ∷ y ∷ l) h (suc i) = under_joined b l (λ j. h (suc (suc j))) i

-- ---- split and joined

pub length_halves : (b : ℕ) (l : List ℕ) → length (halves b l) ≡ 2 * length l
unfolding halves
length_halves b [] = refl
length_halves b (x ∷ l) = omega (arith, length_halves b l)

pub length_joined : (b n : ℕ) (l : List ℕ) → length l ≡ 2 * n → length (joined b l) ≡ n
unfolding joined
length_joined b zero [] h = refl
length_joined b zero (x ∷ l) h = absurd (omega arith)
length_joined b (suc n) [] h = absurd (omega arith)
length_joined b (suc n) (x ∷ []) h = absurd (omega arith)
length_joined b (suc n) (x ∷ y ∷ l) h = ap suc (length_joined b n l (omega arith))

pub joined_halves : (b : ℕ) (l : List ℕ) → joined b (halves b l) ≡ l
unfolding halves joined
joined_halves b [] = refl
joined_halves b (x ∷ l) = ap₂ {C = List ℕ} (λ y m. y ∷ m) (mod-add-div x b) (joined_halves b l)

low_digit : (b x y : ℕ) → x < b → (x + b * y) % b ≡ x
low_digit b x y h = add-mul-mod_self_left x b y ∙ mod-eq_of_lt h

high_digit : (b x y : ℕ) → x < b → (x + b * y) / b ≡ y
high_digit b x y h = add-mul-div_left x y (omega arith) ∙ ap (λ d. d + y) (div-eq_of_lt h) ∙ zero-add y

pub halves_joined : (b n : ℕ) (l : List ℕ) → length l ≡ 2 * n → Under b l → halves b (joined b l) ≡ l
unfolding halves joined
halves_joined b zero [] h u = refl
halves_joined b zero (x ∷ l) h u = absurd (omega arith)
halves_joined b (suc n) [] h u = absurd (omega arith)
halves_joined b (suc n) (x ∷ []) h u = absurd (omega arith)
halves_joined b (suc n) (x ∷ y ∷ l) h u =
    rw (low_digit b x y (u 0), high_digit b x y (u 0), halves_joined b n l (omega arith) (λ i. u (suc (suc i))))

pub get_or_joined : (b n : ℕ) (l : List ℕ) (i : ℕ) → length l ≡ 2 * n → get_or (joined b l) i 0 ≡ get_or l (2 * i) 0 + b * get_or l (2 * i + 1) 0
unfolding joined
get_or_joined b zero [] i h = omega arith
get_or_joined b zero (x ∷ l) i h = absurd (omega arith)
get_or_joined b (suc n) [] i h = absurd (omega arith)
get_or_joined b (suc n) (x ∷ []) i h = absurd (omega arith)
get_or_joined b (suc n) (x ∷ y ∷ l) zero h = refl
get_or_joined b (suc n) (x ∷ y ∷ l) (suc i) h =
    let e : 2 * suc i ≡ suc (suc (2 * i)) = omega arith in
    let f : suc (suc (2 * i)) + 1 ≡ suc (suc (2 * i + 1)) = omega arith in
    rw (e, f) (get_or_joined b n l i (omega arith))

-- ---- one after the other

pub halves_append : (b : ℕ) (l m : List ℕ) → halves b (l ++ m) ≡ halves b l ++ halves b m
unfolding halves
halves_append b [] m = refl
halves_append b (x ∷ l) m = ap (λ k. (x % b) ∷ (x / b) ∷ k) (halves_append b l m)

-- ---- runs

pub length_run : (i k : ℕ) (l : List ℕ) → i + k ≤ length l → length (run i k l) ≡ k
length_run i k l h = length-take-le k (drop i l) (rw length-drop (omega arith))

-- ---- halves joined, from their front and from there on

double : (k : ℕ) → 2 * suc k ≡ suc (suc (2 * k))
double k = omega arith

pub drop_joined : (b k : ℕ) (l : List ℕ) → drop k (joined b l) ≡ joined b (drop (2 * k) l)
unfolding joined
drop_joined b zero l = refl
drop_joined b (suc k) [] = rw double
drop_joined b (suc k) (x ∷ []) = rw double
drop_joined b (suc k) (x ∷ y ∷ l) = rw double (drop_joined b k l)

pub take_joined : (b k : ℕ) (l : List ℕ) → take k (joined b l) ≡ joined b (take (2 * k) l)
unfolding joined
take_joined b zero l = refl
take_joined b (suc k) [] = rw double
take_joined b (suc k) (x ∷ []) = rw double
take_joined b (suc k) (x ∷ y ∷ l) = rw double (ap (λ m. (x + b * y) ∷ m) (take_joined b k l))
