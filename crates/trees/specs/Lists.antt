-- Lists of numbers, and tests over them. Every other definition is written with these.
--   pick b x y       == x where b holds, else y
--   range i k        == the k numbers from i on, ascending
--   keep_if p l      == the members of l that pass p, in order
--   has a l          == does a stand in l?
--   all p l, any p l == does every member pass p; does one?
--   first p l d      == the first member of l that passes p, or d if none does
--   total f l        == the sum of f over the members of l
--   one b            == 1 where b holds, 0 where it does not
--   lowest ok n      == the lowest number below n that fails the test ok; n if none fails
-- Assumes nothing.
use Rattle.std.specs.Prelude.{ℕ, zero, suc, ◌+◌, Bool, true, false, ◌&&◌, ◌||◌, not, List, [], ◌∷◌, eqb}

unfoldable pub pick : {A : Type 0} → Bool → A → A → A
pick true x y = x
pick false x y = y

unfoldable pub range : ℕ → ℕ → List ℕ
range i zero = []
range i (suc k) = i ∷ range (suc i) k

unfoldable pub cons_if : Bool → ℕ → List ℕ → List ℕ
cons_if true x l = x ∷ l
cons_if false x l = l

unfoldable pub keep_if : (ℕ → Bool) → List ℕ → List ℕ
keep_if p [] = []
keep_if p (x ∷ l) = cons_if (p x) x (keep_if p l)

unfoldable pub has : ℕ → List ℕ → Bool
has a [] = false
has a (x ∷ l) = eqb a x || has a l

unfoldable pub all : (ℕ → Bool) → List ℕ → Bool
all p [] = true
all p (x ∷ l) = p x && all p l

unfoldable pub any : (ℕ → Bool) → List ℕ → Bool
any p [] = false
any p (x ∷ l) = p x || any p l

unfoldable pub first : (ℕ → Bool) → List ℕ → ℕ → ℕ
first p [] d = d
first p (x ∷ l) d = pick (p x) x (first p l d)

unfoldable pub total : (ℕ → ℕ) → List ℕ → ℕ
total f [] = 0
total f (x ∷ l) = f x + total f l

unfoldable pub one : Bool → ℕ
one true = 1
one false = 0

unfoldable pub lowest : (ℕ → Bool) → ℕ → ℕ
lowest ok n = first (λ i. not (ok i)) (range 0 n) n
