-- Tests joined, and what two constructors that are equal show: anything. Assumes nothing.
use Prim.Native.Nat.{ℕ}
use native.Mathlib.Omega.{arith}
use mathlib.Core.Path.{◌≡◌, refl}
use mathlib.Core.Logic.{◌⊎◌, inl, inr}
use mathlib.Core.Bool.{Bool, true, false, ◌||◌, ◌&&◌, not}
use lib.Dec.{T}
use Rattle.trees.specs.Lists.{one, pick}

pub or_right : (a b : Bool) → T b → T (a || b)
or_right true b t = tt
or_right false b t = t

pub or_left : (a b : Bool) → T a → T (a || b)
or_left true b t = tt
or_left false b t = absurd t

pub or_cases : (a b : Bool) → T (a || b) → T a ⊎ T b
or_cases true b t = inl tt
or_cases false b t = inr t

pub one_T : (b : Bool) → T b → one b ≡ 1
unfolding one
one_T true t = refl
one_T false t = absurd t

pub and_both : (a b : Bool) → T a → T b → T (a && b)
and_both true b s t = t
and_both false b s t = absurd s

pub and_left : (a b : Bool) → T (a && b) → T a
and_left true b t = tt
and_left false b t = absurd t

pub and_right : (a b : Bool) → T (a && b) → T b
and_right true b t = t
and_right false b t = absurd t

pub test : (b : Bool) → (b ≡ true) ⊎ (b ≡ false)
test true = inl refl
test false = inr refl

pub T_true : {b : Bool} → T b → b ≡ true
T_true {b} t = go b t
  where
    go : (b : Bool) → T b → b ≡ true
    go true t = refl
    go false t = absurd t

pub true_T : {b : Bool} → b ≡ true → T b
true_T e = rw e tt

-- a test that passes does not fail
pub not_both : {A : Type 0} (b : Bool) → T b → b ≡ false → A
not_both b t e = absurd (rw e at t)

-- two tests that pass together are one
pub T-same : (a b : Bool) → (T a → T b) → (T b → T a) → a ≡ b
T-same true true f g = refl
T-same true false f g = absurd (f tt)
T-same false true f g = absurd (g tt)
T-same false false f g = refl

-- a choice that is made
pub pick_yes : {A : Type 0} (b : Bool) (x y : A) → b ≡ true → pick b x y ≡ x
unfolding pick
pick_yes b x y e = rw e

pub pick_no : {A : Type 0} (b : Bool) (x y : A) → b ≡ false → pick b x y ≡ y
unfolding pick
pick_no b x y e = rw e

-- `cc` tells two constructors apart by an equation of numbers, from which anything follows
pub clash : {A : Type 0} → ◌≡◌ {A = ℕ} 0 1 → A
clash z = absurd (omega arith)

-- a test and its opposite
pub not_swap : (a b : Bool) → a ≡ not b → b ≡ not a
not_swap true true e = clash (cc)
not_swap true false e = refl
not_swap false true e = refl
not_swap false false e = clash (cc)
