-- Members, filters, sums and searches of lists of numbers. Assumes nothing.
use Prim.Native.Nat.{ℕ, zero, suc, ◌+◌, ◌≤◌, ◌<◌}
use native.Mathlib.Omega.{arith}
use native.Mathlib.Nat.{add-zero, zero-add}
use native.Mathlib.Numerals.{add-one}
use native.Mathlib.Decide.{ℕ_discrete}
use mathlib.Core.Path.{◌≡◌, refl, sym, ap, ap₂, ◌∙◌, subst}
use mathlib.Core.Logic.{◌⊎◌, inl, inr, ◌≢◌}
use mathlib.Core.Bool.{Bool, true, false, ◌||◌, not}
use mathlib.Core.List.{List, [], ◌∷◌, ◌++◌, map, nil≢cons, head-eq_of_cons-eq, tail-eq_of_cons-eq}
use lib.ListN.{length, get_or, length-append}
use lib.Dec.{T, eqb, eqb→eq, eqb_refl}
use borrow.Author.Tests.{eq-eqb, ne_eqb, not-true, not-false}
use Rattle.trees.specs.Lists.{range, cons_if, keep_if, has, all, any, pick, first, total, one, lowest}
use Rattle.trees.proofs.Bools.{or_left, or_right, or_cases, and_both, and_left, and_right, test, T_true, true_T}

-- v where the test passes, 0 where it fails
abbrev pub only : Bool → ℕ → ℕ
only true v = v
only false v = 0

pub has_head : (x : ℕ) (l : List ℕ) → T (has x (x ∷ l))
unfolding has
has_head x l = or_left (eqb x x) (has x l) (eqb_refl x)

pub has_tail : (a x : ℕ) (l : List ℕ) → T (has a l) → T (has a (x ∷ l))
unfolding has
has_tail a x l t = or_right (eqb a x) (has a l) t

pub has_cases : (a x : ℕ) (l : List ℕ) → T (has a (x ∷ l)) → (a ≡ x) ⊎ T (has a l)
unfolding has
has_cases a x l t = elim (or_cases (eqb a x) (has a l) t) [ inl e ↦ inl (eqb→eq a x e) | inr r ↦ inr r ]

pub total_cong : (f g : ℕ → ℕ) (l : List ℕ) → ((x : ℕ) → T (has x l) → f x ≡ g x) → total f l ≡ total g l
unfolding total
total_cong f g [] e = refl
total_cong f g (x ∷ l) e = ap₂ ◌+◌ (e x (has_head x l)) (total_cong f g l (λ y t. e y (has_tail y x l t)))

pub total_add : (f g : ℕ → ℕ) (l : List ℕ) → total (λ x. f x + g x) l ≡ total f l + total g l
unfolding total
total_add f g [] = refl
total_add f g (x ∷ l) = omega (arith, total_add f g l)

pub total_zero : (l : List ℕ) → total (λ x. 0) l ≡ 0
unfolding total
total_zero [] = refl
total_zero (x ∷ l) = omega (arith, total_zero l)

pub total_swap : (f : ℕ → ℕ → ℕ) (l m : List ℕ) → total (λ x. total (f x) m) l ≡ total (λ y. total (λ x. f x y) l) m
unfolding total
total_swap f [] m = sym (total_zero m)
total_swap f (x ∷ l) m = ap (λ v. total (f x) m + v) (total_swap f l m) ∙ sym (total_add (f x) (λ y. total (λ z. f z y) l) m)

pub total_le : (f g : ℕ → ℕ) (l : List ℕ) → ((x : ℕ) → T (has x l) → f x ≤ g x) → total f l ≤ total g l
unfolding total
total_le f g [] e = omega arith
total_le f g (x ∷ l) e = omega (arith, e x (has_head x l), total_le f g l (λ y t. e y (has_tail y x l t)))

pub total_ones : (i n : ℕ) → total (λ x. 1) (range i n) ≡ n
unfolding total range
total_ones i zero = refl
total_ones i (suc n) = omega (arith, total_ones (suc i) n)

-- a member is at most the sum
pub total_member : (f : ℕ → ℕ) (x : ℕ) (l : List ℕ) → T (has x l) → f x ≤ total f l
unfolding total has
total_member f x [] t = absurd t
total_member f x (y ∷ l) t = elim (has_cases x y l t) [ inl e ↦ rw e (omega arith) | inr r ↦ omega (arith, total_member f x l r) ]

total_cons_if : (f : ℕ → ℕ) (b : Bool) (x : ℕ) (l : List ℕ) → total f (cons_if b x l) ≡ only b (f x) + total f l
unfolding total cons_if
total_cons_if f true x l = refl
total_cons_if f false x l = omega arith

pub total_keep : (f : ℕ → ℕ) (p : ℕ → Bool) (l : List ℕ) → total f (keep_if p l) ≡ total (λ x. only (p x) (f x)) l
unfolding total keep_if
total_keep f p [] = refl
total_keep f p (x ∷ l) = total_cons_if f (p x) x (keep_if p l) ∙ ap (λ v. only (p x) (f x) + v) (total_keep f p l)

-- members of a range and of a filter
pub has_range : (i k x : ℕ) → i ≤ x → x < i + k → T (has x (range i k))
unfolding range
has_range i zero x h l = absurd (omega arith)
has_range i (suc k) x h l =
    elim (ℕ_discrete i x) [ yes e ↦ rw e (has_head x (range (suc x) k)) | no e ↦ has_tail x i (range (suc i) k) (has_range (suc i) k x (omega arith) (omega arith)) ]

pub range_has : (i k x : ℕ) → T (has x (range i k)) → (i ≤ x) × (x < i + k)
unfolding range has
range_has i zero x t = absurd t
range_has i (suc k) x t = elim (has_cases x i (range (suc i) k) t) [ inl e ↦ omega arith | inr r ↦ omega (arith, range_has (suc i) k x r) ]

keep_cons_if : (a : ℕ) (b : Bool) (x : ℕ) (l : List ℕ) → T (has a (cons_if b x l)) → ((a ≡ x) × T b) ⊎ T (has a l)
unfolding cons_if
keep_cons_if a true x l t = elim (has_cases a x l t) [ inl e ↦ inl (e, tt) | inr r ↦ inr r ]
keep_cons_if a false x l t = inr t

pub keep_has : (p : ℕ → Bool) (a : ℕ) (l : List ℕ) → T (has a (keep_if p l)) → T (p a) × T (has a l)
unfolding keep_if has
keep_has p a [] t = absurd t
keep_has p a (x ∷ l) t =
    elim (keep_cons_if a (p x) x (keep_if p l) t)
    [ inl e ↦ (rw e.0 e.1, subst (λ z. T (has z (x ∷ l))) (sym e.0) (has_head x l)) | inr r ↦ ((keep_has p a l r).0, has_tail a x l (keep_has p a l r).1) ]

has_cons_if : (a : ℕ) (b : Bool) (x : ℕ) (l : List ℕ) → ((a ≡ x) × T b) ⊎ T (has a l) → T (has a (cons_if b x l))
unfolding cons_if
has_cons_if a true x l (inl e) = rw e.0 (has_head x l)
has_cons_if a true x l (inr r) = has_tail a x l r
has_cons_if a false x l (inl e) = absurd e.1
has_cons_if a false x l (inr r) = r

pub has_keep : (p : ℕ → Bool) (a : ℕ) (l : List ℕ) → T (p a) → T (has a l) → T (has a (keep_if p l))
unfolding keep_if has
has_keep p a [] s t = absurd t
has_keep p a (x ∷ l) s t =
    has_cons_if a (p x) x (keep_if p l) (elim (has_cases a x l t) [ inl e ↦ inl (e, rw e at s) | inr r ↦ inr (has_keep p a l s r) ])

-- the sum over a range of what stands at one place
pub total_out : (f : ℕ → ℕ) (k : ℕ) (l : List ℕ) → ((y : ℕ) → T (has y l) → k ≢ y) → total (λ y. only (eqb k y) (f y)) l ≡ 0
total_out f k l h = total_cong (λ y. only (eqb k y) (f y)) (λ y. 0) l (λ y t. rw (ne_eqb k y (h y t))) ∙ total_zero l

pub total_at : (f : ℕ → ℕ) (k i n : ℕ) → i ≤ k → k < i + n → total (λ y. only (eqb k y) (f y)) (range i n) ≡ f k
unfolding total range
total_at f k i zero h l = absurd (omega arith)
total_at f k i (suc n) h l =
    elim (ℕ_discrete k i) [
      | yes e ↦ rw (eq-eqb k i e) (omega (arith, total_out f k (range (suc i) n) (λ y t. omega (arith, range_has (suc i) n y t)), ap f e))
      | no e ↦ rw (ne_eqb k i e) (omega (arith, total_at f k (suc i) n (omega arith) (omega arith)))
    ]

-- a filter of a range ascends
asc_cons_if : (b : Bool) (i x y : ℕ) (l r : List ℕ) → ((z : ℕ) → T (has z l) → i < z) → ((x y : ℕ) (r : List ℕ) → l ≡ x ∷ y ∷ r → x < y) → cons_if b i l ≡ x ∷ y ∷ r → x < y
unfolding cons_if
asc_cons_if true i x y l r up asc e =
    let hi : i ≡ x = head-eq_of_cons-eq e in
    let tl : l ≡ y ∷ r = tail-eq_of_cons-eq e in
    omega (arith, up y (rw tl (has_head y r)))
asc_cons_if false i x y l r up asc e = asc x y r e

pub keep_asc : (p : ℕ → Bool) (i n x y : ℕ) (r : List ℕ) → keep_if p (range i n) ≡ x ∷ y ∷ r → x < y
unfolding keep_if range
keep_asc p i zero x y r e = absurd (nil≢cons e)
keep_asc p i (suc n) x y r e =
    asc_cons_if (p i) i x y (keep_if p (range (suc i) n)) r (λ z t. (range_has (suc i) n z (keep_has p z (range (suc i) n) t).1).0) (λ x' y' r' e'. keep_asc p (suc i) n x' y' r' e') e

pub total_none : (f : ℕ → ℕ) (l : List ℕ) → length l ≡ 0 → total f l ≡ 0
unfolding total
total_none f [] e = refl
total_none f (x ∷ l) e = absurd (omega arith)

-- ---- a test of every member, the first that passes

pub all_has : (p : ℕ → Bool) (l : List ℕ) → T (all p l) → (x : ℕ) → T (has x l) → T (p x)
unfolding all has
all_has p [] t x h = absurd h
all_has p (y ∷ l) t x h = elim (has_cases x y l h) [ inl e ↦ rw e (and_left (p y) (all p l) t) | inr r ↦ all_has p l (and_right (p y) (all p l) t) x r ]

pub has_all : (p : ℕ → Bool) (l : List ℕ) → ((x : ℕ) → T (has x l) → T (p x)) → T (all p l)
unfolding all
has_all p [] f = tt
has_all p (y ∷ l) f = and_both (p y) (all p l) (f y (has_head y l)) (has_all p l (λ x t. f x (has_tail x y l t)))

pub any_has : (p : ℕ → Bool) (x : ℕ) (l : List ℕ) → T (has x l) → T (p x) → T (any p l)
unfolding any has
any_has p x [] h t = absurd h
any_has p x (y ∷ l) h t = elim (has_cases x y l h) [ inl e ↦ or_left (p y) (any p l) (rw e at t) | inr r ↦ or_right (p y) (any p l) (any_has p x l r t) ]

pub has_any : (p : ℕ → Bool) (l : List ℕ) → T (any p l) → (x : ℕ) × T (has x l) × T (p x)
unfolding any
has_any p [] t = absurd t
has_any p (y ∷ l) t =
    elim (or_cases (p y) (any p l) t) [ inl s ↦ (y, has_head y l, s) | inr s ↦ let k = has_any p l s in (k.0, has_tail k.0 y l k.1, k.2) ]

pub any_cong : (p q : ℕ → Bool) (l : List ℕ) → ((x : ℕ) → T (has x l) → p x ≡ q x) → any p l ≡ any q l
unfolding any
any_cong p q [] e = refl
any_cong p q (y ∷ l) e = ap₂ ◌||◌ (e y (has_head y l)) (any_cong p q l (λ x t. e x (has_tail x y l t)))

pub has_get_or : (x d : ℕ) (l : List ℕ) → T (has x l) → T (has (get_or l 0 d) l)
unfolding has
has_get_or x d [] t = absurd t
has_get_or x d (y ∷ l) t = has_head y l

pub first_yes : (p : ℕ → Bool) (x : ℕ) (l : List ℕ) (d : ℕ) → p x ≡ true → first p (x ∷ l) d ≡ x
unfolding first pick
first_yes p x l d e = rw e

pub first_no : (p : ℕ → Bool) (x : ℕ) (l : List ℕ) (d : ℕ) → p x ≡ false → first p (x ∷ l) d ≡ first p l d
unfolding first pick
first_no p x l d e = rw e

-- where some member passes, the first that does is a member and passes
pub first_has : (p : ℕ → Bool) (x : ℕ) (l : List ℕ) (d : ℕ) → T (has x l) → T (p x) → T (p (first p l d)) × T (has (first p l d) l)
unfolding has
first_has p x [] d t s = absurd t
first_has p x (y ∷ l) d t s =
    elim (test (p y)) [
      | inl e ↦ subst (λ z. T (p z) × T (has z (y ∷ l))) (sym (first_yes p y l d e)) (true_T e, has_head y l)
      | inr e ↦ elim (has_cases x y l t) [
        | inl q ↦ absurd (rw e at (rw q at s))
        | inr r ↦ let k = first_has p x l d r s in subst (λ z. T (p z) × T (has z (y ∷ l))) (sym (first_no p y l d e)) (k.0, has_tail (first p l d) y l k.1)
      ]
    ]

-- ---- the first of a range: it passes, and all before it fail

first_range_found : (p : ℕ → Bool) (i k v d : ℕ) → i ≤ v → v < i + k → p v ≡ true → ((j : ℕ) → i ≤ j → j < v → p j ≡ false) → first p (range i k) d ≡ v
unfolding range
first_range_found p i zero v d a b t f = absurd (omega arith)
first_range_found p i (suc k) v d a b t f =
    elim (ℕ_discrete i v) [
      | yes e ↦ first_yes p i (range (suc i) k) d (rw e t) ∙ e
      | no e ↦ first_no p i (range (suc i) k) d (f i (omega arith) (omega arith)) ∙ first_range_found p (suc i) k v d (omega arith) (omega arith) t (λ j x y. f j (omega arith) y)
    ]

pub first_none : (p : ℕ → Bool) (l : List ℕ) (d : ℕ) → ((x : ℕ) → T (has x l) → p x ≡ false) → first p l d ≡ d
unfolding first
first_none p [] d f = refl
first_none p (y ∷ l) d f = first_no p y l d (f y (has_head y l)) ∙ first_none p l d (λ x t. f x (has_tail x y l t))

-- the first below n that passes
pub first_is : (p : ℕ → Bool) (n v d : ℕ) → v < n → p v ≡ true → ((j : ℕ) → j < v → p j ≡ false) → first p (range 0 n) d ≡ v
first_is p n v d l t f = first_range_found p 0 n v d (omega arith) (omega arith) t (λ j a b. f j b)

-- what the first of a range is
first_range_cases : (p : ℕ → Bool) (i k d : ℕ)
    → ((v : ℕ) × (first p (range i k) d ≡ v) × (i ≤ v) × (v < i + k) × (p v ≡ true) × ((j : ℕ) → i ≤ j → j < v → p j ≡ false))
    ⊎ ((first p (range i k) d ≡ d) × ((j : ℕ) → i ≤ j → j < i + k → p j ≡ false))
unfolding range first
first_range_cases p i zero d = inr (refl, λ j a b. absurd (omega arith))
first_range_cases p i (suc k) d =
    elim (test (p i)) [
      | inl e ↦ inl (i, first_yes p i (range (suc i) k) d e, omega arith, omega arith, e, λ j a b. absurd (omega arith))
      | inr e ↦
          elim (first_range_cases p (suc i) k d) [
            | inl r ↦ inl (
              r.0,
              first_no p i (range (suc i) k) d e ∙ r.1,
              omega (arith, r.2),
              omega (arith, r.3),
              r.4,
              λ j a b. elim (ℕ_discrete j i) [ yes z ↦ rw z e | no z ↦ r.5 j (omega arith) b ],
            )
            | inr r ↦ inr (first_no p i (range (suc i) k) d e ∙ r.0, λ j a b. elim (ℕ_discrete j i) [ yes z ↦ rw z e | no z ↦ r.1 j (omega arith) (omega arith) ])
          ]
    ]

-- ---- the lowest that fails

pub lowest_is : (ok : ℕ → Bool) (n v : ℕ) → v < n → ok v ≡ false → ((j : ℕ) → j < v → T (ok j)) → lowest ok n ≡ v
unfolding lowest
lowest_is ok n v l e f = first_is (λ i. not (ok i)) n v n l (rw e) (λ j b. rw (T_true {b = ok j} (f j b)))

pub lowest_none : (ok : ℕ → Bool) (n : ℕ) → ((j : ℕ) → j < n → T (ok j)) → lowest ok n ≡ n
unfolding lowest
lowest_none ok n f = first_none (λ i. not (ok i)) (range 0 n) n (λ x t. rw (T_true {b = ok x} (f x (omega (arith, range_has 0 n x t)))))

-- either all pass, or there is a lowest that fails
pub lowest_cases : (ok : ℕ → Bool) (n : ℕ)
    → ((lowest ok n < n) × (ok (lowest ok n) ≡ false) × ((j : ℕ) → j < lowest ok n → T (ok j))) ⊎ ((lowest ok n ≡ n) × ((j : ℕ) → j < n → T (ok j)))
unfolding lowest
lowest_cases ok n =
    elim (first_range_cases (λ i. not (ok i)) 0 n n) [
      | inl r ↦ inl (omega (arith, r.1, r.3), rw r.1 (not-true (ok r.0) r.4), λ j b. true_T (not-false (ok j) (r.5 j (omega arith) (rw r.1 at b))))
      | inr r ↦ inr (r.0, λ j b. true_T (not-false (ok j) (r.1 j (omega arith) (omega arith))))
    ]

-- two tests that agree below n have one lowest
pub lowest_same : (ok ok' : ℕ → Bool) (n : ℕ) → ((i : ℕ) → i < n → ok i ≡ ok' i) → lowest ok n ≡ lowest ok' n
lowest_same ok ok' n f =
    elim (lowest_cases ok n) [
      | inl r ↦ sym (lowest_is ok' n (lowest ok n) r.0 (sym (f (lowest ok n) r.0) ∙ r.1) (λ j h. rw (f j (omega (arith, r.0))) at (r.2 j h)))
      | inr r ↦ r.0 ∙ sym (lowest_none ok' n (λ j h. rw (f j h) at (r.1 j h)))
    ]

-- ---- one more number at the end of a range

pub range_more : (i k : ℕ) → range i (suc k) ≡ range i k ++ (i + k) ∷ []
unfolding range
range_more i zero = rw (add-zero i)
range_more i (suc k) = ap (λ l. i ∷ l) (range_more (suc i) k ∙ ap (λ m. range (suc i) k ++ m ∷ []) (omega arith))

keep_append : (p : ℕ → Bool) (l m : List ℕ) → keep_if p (l ++ m) ≡ keep_if p l ++ keep_if p m
unfolding keep_if cons_if
keep_append p [] m = refl
keep_append p (x ∷ l) m = ap (λ k. cons_if (p x) x k) (keep_append p l m) ∙ cons_append (p x) x (keep_if p l) (keep_if p m)
  where
    cons_append : (b : Bool) (x : ℕ) (l m : List ℕ) → cons_if b x (l ++ m) ≡ cons_if b x l ++ m
    cons_append true x l m = refl
    cons_append false x l m = refl

length_cons_if : (b : Bool) (x : ℕ) → length (cons_if b x []) ≡ one b
unfolding cons_if one
length_cons_if true x = refl
length_cons_if false x = refl

-- how many of the first numbers pass a test: one number more
pub keep_more : (p : ℕ → Bool) (i : ℕ) → length (keep_if p (range 0 (i + 1))) ≡ length (keep_if p (range 0 i)) + one (p i)
unfolding keep_if
keep_more p i =
    rw (add-one i, range_more 0 i, keep_append p (range 0 i) ((0 + i) ∷ []), length-append (keep_if p (range 0 i)) (cons_if (p (0 + i)) (0 + i) []), length_cons_if (p (0 + i)) (0 + i), zero-add i)

-- an entry read with another default
pub get_or_any : (l : List ℕ) (i d e : ℕ) → i < length l → get_or l i d ≡ get_or l i e
get_or_any [] i d e h = absurd (omega arith)
get_or_any (x ∷ l) zero d e h = refl
get_or_any (x ∷ l) (suc i) d e h = get_or_any l i d e (omega arith)

total_append : (f : ℕ → ℕ) (l m : List ℕ) → total f (l ++ m) ≡ total f l + total f m
unfolding total
total_append f [] m = omega arith
total_append f (x ∷ l) m = omega (arith, total_append f l m)

-- a sum over the first numbers: one number more
pub total_more : (f : ℕ → ℕ) (i : ℕ) → total f (range 0 (i + 1)) ≡ total f (range 0 i) + f i
unfolding total
total_more f i = rw (add-one i, range_more 0 i, total_append f (range 0 i) ((0 + i) ∷ []), zero-add i) (omega arith)

-- a part of it is at most the whole
pub total_part : (f : ℕ → ℕ) (i k : ℕ) → total f (range 0 i) ≤ total f (range 0 (i + k))
total_part f i zero = rw (add-zero i) (omega arith)
total_part f i (suc k) = let e : i + suc k ≡ (i + k) + 1 = omega arith in rw (e, total_more f (i + k)) (omega (arith, total_part f i k))

-- a filter of the first numbers: one number more
pub keep_last : (p : ℕ → Bool) (i : ℕ) → keep_if p (range 0 (i + 1)) ≡ keep_if p (range 0 i) ++ cons_if (p i) i []
unfolding keep_if
keep_last p i = rw (add-one i, range_more 0 i, keep_append p (range 0 i) ((0 + i) ∷ []), zero-add i)

any_append : (p : ℕ → Bool) (l m : List ℕ) → any p (l ++ m) ≡ (any p l || any p m)
unfolding any
any_append p [] m = refl
any_append p (x ∷ l) m = rw (any_append p l m) (or_shift (p x) (any p l) (any p m))
  where
    or_shift : (a b c : Bool) → (a || (b || c)) ≡ ((a || b) || c)
    or_shift true b c = refl
    or_shift false b c = refl

-- does one of the first numbers pass a test: one number more
pub any_more : (p : ℕ → Bool) (i : ℕ) → any p (range 0 (i + 1)) ≡ (any p (range 0 i) || p i)
unfolding any
any_more p i = rw (add-one i, range_more 0 i, any_append p (range 0 i) ((0 + i) ∷ []), zero-add i) (ap (λ b. any p (range 0 i) || b) (or_none (p i)))
  where
    or_none : (b : Bool) → (b || false) ≡ b
    or_none true = refl
    or_none false = refl

-- some member passes a test, or all fail it
pub any_cases : (p : ℕ → Bool) (l : List ℕ) → ((x : ℕ) × T (has x l) × T (p x)) ⊎ ((x : ℕ) → T (has x l) → p x ≡ false)
any_cases p l =
    elim (test (any p l)) [
      | inl e ↦ inl (has_any p l (true_T e))
      | inr e ↦ inr (λ x t. elim (test (p x)) [ inl f ↦ absurd (rw e at (any_has p x l t (true_T f))) | inr f ↦ f ])
    ]

-- ---- a function written out over a range

pub length_range : (f : ℕ → ℕ) (i n : ℕ) → length (map f (range i n)) ≡ n
unfolding range
length_range f i zero = refl
length_range f i (suc n) = ap suc (length_range f (suc i) n)

pub get_or_range : (f : ℕ → ℕ) (i n k : ℕ) → k < n → get_or (map f (range i n)) k 0 ≡ f (i + k)
unfolding range
get_or_range f i zero k l = absurd (omega arith)
get_or_range f i (suc n) zero l = ap f (omega arith)
get_or_range f i (suc n) (suc k) l = get_or_range f (suc i) n k (omega arith) ∙ ap f (omega arith)
