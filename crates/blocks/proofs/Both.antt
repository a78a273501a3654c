-- Two tests, the second made only where the first holds: as code makes them. Assumes nothing.
use Rattle.std.proofs.Common.{◌≡◌, ℕ, Bool, true, false, ◌&&◌, eqb, refl, eq-eqb, ne_eqb}

pub both_second : (a b p q x y u v : ℕ) → a ≡ x → b ≡ y → p ≡ u → q ≡ v → a ≡ p → eqb b q ≡ eqb x u && eqb y v
both_second a b p q x y u v e f g h i = rw (eq-eqb x u (cc), f, h)

pub both_first : (a p x u : ℕ) (t : Bool) → a ≡ x → p ≡ u → (a ≡ p → ⊥) → eqb a p ≡ eqb x u && t
both_first a p x u t e f h = rw (← e, ← f, ne_eqb a p h)

-- the second fails
pub and_false : (a b : Bool) → b ≡ false → a && b ≡ false
and_false true b e = e
and_false false b e = refl
