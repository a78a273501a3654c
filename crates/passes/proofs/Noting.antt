-- Passes without branches: nothing is noted at the end exactly if every node passed is right. Assumes nothing.
--   Noted P i w <-> nothing is noted in w exactly if P holds of each number below i
--   noting p w x == what is noted after one member more, which is right if it passes p
use Prim.Native.Nat.{ℕ, zero, suc, ◌+◌, ◌≤◌, ◌<◌}
use native.Mathlib.Omega.{arith}
use mathlib.Core.Path.{◌≡◌, refl}
use mathlib.Core.Logic.{◌↔◌, inl, inr}
use mathlib.Core.Bool.{Bool, true, false}
use mathlib.Core.List.{List, [], ◌∷◌}
use lib.Dec.{T, ltb, ltb→lt, lt→ltb}
use lib.ListN.{length, get_or, take}
use lib.Seq.{length-take-le, get_or-take}
use borrow.Author.Count.{below_none, below_more}
use Rattle.std.specs.List.{fold}
use Rattle.trees.specs.Lists.{pick}
use Rattle.trees.proofs.Lists.{get_or_any}
use Rattle.trees.proofs.Bools.{test, true_T}
use Rattle.passes.specs.Promises.{AllBelow}

abbrev pub Noted : (ℕ → Type 0) → ℕ → ℕ → Type 0
Noted P i w = (w ≡ 0) ↔ ((k : ℕ) → k < i → P k)

pub noted_none : (P : ℕ → Type 0) → Noted P 0 0
noted_none P = ((λ e. below_none P), (λ f. refl))

-- one node more, whose test is b
pub noted_more : (P : ℕ → Type 0) (i w : ℕ) (b : Bool) → (T b ↔ P i) → Noted P i w → Noted P (i + 1) (pick b w 1)
unfolding pick
noted_more P i w true t n = ((λ e. below_more P i (n.0 e) (t.0 tt)), (λ f. n.1 (λ k h. f k (omega arith))))
noted_more P i w false t n = ((λ e. absurd (omega arith)), (λ f. absurd (t.1 (f i (omega arith)))))

-- the same where wrong ones are counted, r for this one
pub noted_add : (P : ℕ → Type 0) (i w r : ℕ) → ((r ≡ 0) ↔ P i) → Noted P i w → Noted P (i + 1) (w + r)
noted_add P i w r t n =
    ((λ e. below_more P i (n.0 (omega arith)) (t.0 (omega arith))), (λ f. omega (arith, n.1 (λ k h. f k (omega arith)), t.1 (f i (omega arith)))))

abbrev pub noting : {X : Type 0} → (X → Bool) → ℕ → X → ℕ
noting p w x = pick (p x) w 1

-- all members of a list, beginning with what was noted before
pub noting_all : {X : Type 0} (p : X → Bool) (l : List X) (w : ℕ) → (fold (noting p) w l ≡ 0) ↔ ((w ≡ 0) × ((g : ℕ) (d : X) → g < length l → T (p (get_or l g d))))
unfolding pick
noting_all p [] w = ((λ e. (e, λ g d h. absurd (omega arith))), (λ n. n.0))
noting_all {X} p (x ∷ l) w =
    let N = noting_all p l (noting p w x) in
    elim (test (p x)) [
      | inl e ↦ (
        (λ z. let n = N.0 z in (rw e at n.0, each x l (true_T e) n.1)),
        (λ n. N.1 (rw e n.0, λ g d h. n.1 (suc g) d (omega arith))),
      )
      | inr e ↦ (
        (λ z. let n = N.0 z in absurd (let o : 1 ≡ 0 = rw e at n.0 in omega (arith, o))),
        (λ n. absurd (rw e at (n.1 0 x (omega arith)))),
      )
    ]
  where
    each : (x : X) (l : List X) → T (p x) → ((g : ℕ) (d : X) → g < length l → T (p (get_or l g d))) → (g : ℕ) (d : X) → g < length (x ∷ l) → T (p (get_or (x ∷ l) g d))
    each x l t f zero d s = t
    each x l t f (suc g) d s = f g d (omega arith)

-- the first q entries of a table, against a limit
pub noting_below : (t : List ℕ) (q b : ℕ) → q ≤ length t → (fold (noting (λ x. ltb x b)) 0 (take q t) ≡ 0) ↔ AllBelow t q b
noting_below t q b r =
    let N = noting_all (λ x. ltb x b) (take q t) 0 in
    let size = length-take-le q t r in
    let same : (g : ℕ) → g < q → get_or (take q t) g 0 ≡ get_or t g 0 = (λ g h. get_or-take q t g 0 h) in (
      (λ e. record { room = r; below = λ g h. rw (same g h) at (ltb→lt _ b ((N.0 e).1 g 0 (omega (arith, size)))) }),
      (λ B. N.1 (refl, λ g d h. let i : g < q = omega (arith, size) in lt→ltb _ b (rw (get_or-take q t g d i, get_or_any t g d 0 (omega arith)) (B.below g i)))),
    )
