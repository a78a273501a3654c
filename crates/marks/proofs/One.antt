-- One answer only: any two results that meet a contract of this crate are equal. Assumes nothing.
use Prim.Native.Nat.{ℕ, zero, suc, ◌<◌}
use native.Mathlib.Omega.{arith}
use mathlib.Core.Path.{◌≡◌, refl, sym, ap, ap₂, ◌∙◌}
use mathlib.Core.Bool.{Bool}
use mathlib.Core.List.{List, [], ◌∷◌}
use lib.ListN.{length, get_or}
use Rattle.trees.specs.Lists.{pick}
use Rattle.trees.specs.One.{Single}
use Rattle.trees.proofs.One.{single_value, both}
use Rattle.marks.specs.Bits.{two_at_lem, raised}
use Rattle.marks.specs.Promises.{BlankMeets, TwoAtMeets, AddOneMeets}

-- two tables as long as each other with zeros alone
zeros_one : (n : ℕ) (a b : List ℕ) → length a ≡ n → length b ≡ n → ((k : ℕ) → k < n → get_or a k 0 ≡ 0) → ((k : ℕ) → k < n → get_or b k 0 ≡ 0) → a ≡ b
zeros_one n [] [] p q f g = refl
zeros_one n [] (y ∷ b) p q f g = absurd (omega arith)
zeros_one n (x ∷ a) [] p q f g = absurd (omega arith)
zeros_one zero (x ∷ a) (y ∷ b) p q f g = absurd (omega arith)
zeros_one (suc n) (x ∷ a) (y ∷ b) p q f g =
    ap₂ (λ z l. z ∷ l) (f 0 (omega arith) ∙ sym (g 0 (omega arith)))
    (zeros_one n a b (omega arith) (omega arith) (λ k h. f (suc k) (omega arith)) (λ k h. g (suc k) (omega arith)))

pub blank_one : Single BlankMeets
blank_one a b p q = zeros_one 512 a b p.size q.size p.zero q.zero

pub two_at_one : (c : List ℕ) (u : ℕ) → Single (TwoAtMeets c u)
two_at_one c u = single_value (two_at_lem c u)

pub add_one_one : (c : List ℕ) (u : ℕ) → Single (λ (r : Bool × List ℕ). AddOneMeets c u r.0 r.1)
add_one_one c u a b p q =
    let e : a.0 ≡ b.0 = p.0 ∙ sym q.0 in
    both a b e (p.1 ∙ ap (λ r. pick r (raised c u) c) e ∙ sym q.1)
