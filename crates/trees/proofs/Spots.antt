-- What a search found: a spot is a number below the limit, and nowhere is none. Assumes nothing.
use Prim.Native.Nat.{ℕ, ◌<◌}
use native.Mathlib.Omega.{arith}
use native.Mathlib.Decide.{ℕ_discrete}
use mathlib.Core.Path.{◌≡◌, refl, ap, ◌∙◌}
use mathlib.Core.Logic.{inl, inr}
use mathlib.Core.Bool.{Bool}
use borrow.Author.Tests.{eq-eqb, ne_eqb}
use Rattle.trees.specs.Lists.{lowest, pick}
use Rattle.trees.specs.Spots.{spot, nowhere, lowest_spot, species_spot}
use Rattle.trees.specs.declared.SpeciesNode.{SpeciesNode}
use Rattle.std.specs.Prelude.{Option, Some, None}
use Rattle.trees.proofs.Bools.{clash}
use Rattle.trees.proofs.Lists.{lowest_cases}

pub spot_found : (ok : ℕ → Bool) (n k : ℕ) → k ≡ lowest ok n → k < n → lowest_spot ok n ≡ spot k
unfolding lowest_spot pick
spot_found ok n k e h = rw (← e, ne_eqb k n (omega arith))

pub spot_none : (ok : ℕ → Bool) (n : ℕ) → lowest ok n ≡ n → lowest_spot ok n ≡ nowhere
unfolding lowest_spot pick
spot_none ok n e = rw (eq-eqb (lowest ok n) n e)

-- and back: what the spot, or its absence, tells of the lowest
pub spot_lowest : (ok : ℕ → Bool) (n k : ℕ) → spot k ≡ lowest_spot ok n → k ≡ lowest ok n
spot_lowest ok n k e =
    elim (ℕ_discrete (lowest ok n) n) [
      | yes z ↦ let f = e ∙ spot_none ok n z in clash (cc)
      | no z ↦ elim (lowest_cases ok n) [ inl r ↦ let f = e ∙ spot_found ok n (lowest ok n) refl r.0 in cc | inr r ↦ absurd (z r.0) ]
    ]

pub nowhere_lowest : (ok : ℕ → Bool) (n : ℕ) → nowhere ≡ lowest_spot ok n → lowest ok n ≡ n
nowhere_lowest ok n e =
    elim (lowest_cases ok n) [ inl r ↦ let f = e ∙ spot_found ok n (lowest ok n) refl r.0 in clash (cc) | inr r ↦ r.0 ]

-- a node by its number
pub node_one : (a b : SpeciesNode) → a.0 ≡ b.0 → a ≡ b
node_one a b e = ap (λ (n : ℕ). record { 0 = n }) e

pub species_spot_one : (a b : Option SpeciesNode) → species_spot a ≡ species_spot b → a ≡ b
species_spot_one (Some a) (Some b) e = let q : a.0 ≡ b.0 = cc in ap Some (node_one a b q)
species_spot_one (Some a) None e = clash (cc)
species_spot_one None (Some b) e = clash (cc)
species_spot_one None None e = refl
