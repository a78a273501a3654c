-- How a contract fixes its result: by an equation, by an equation through a definition that is one-to-one, or by a fact that a test
-- tells. Assumes nothing.
use mathlib.Core.Path.{◌≡◌, sym, ap₂, ◌∙◌}
use mathlib.Core.Logic.{◌↔◌}
use mathlib.Core.Bool.{Bool}
use lib.Dec.{T}
use Rattle.trees.specs.One.{Single}
use Rattle.trees.proofs.Bools.{T-same}

pub single_value : {R : Type 0} (v : R) → Single (λ (r : R). r ≡ v)
single_value v a b p q = p ∙ sym q

pub single_view : {R S : Type 0} (view : R → S) → ((a b : R) → view a ≡ view b → a ≡ b) → (v : S) → Single (λ (r : R). view r ≡ v)
single_view view one v a b p q = one a b (p ∙ sym q)

-- a test that is yes exactly if P holds
pub single_test : (P : Type 0) → Single (λ (r : Bool). T r ↔ P)
single_test P a b p q = T-same a b (λ t. q.1 (p.0 t)) (λ t. p.1 (q.0 t))

-- two results of two parts are equal if their parts are
pub both : {A B : Type 0} (a b : A × B) → a.0 ≡ b.0 → a.1 ≡ b.1 → a ≡ b
both a b p q = ap₂ (λ x y. (x, y)) p q

pub three : {A B C : Type 0} (a b : A × B × C) → a.0 ≡ b.0 → a.1 ≡ b.1 → a.2 ≡ b.2 → a ≡ b
three a b p q r = rw (p, q, r)
