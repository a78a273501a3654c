-- Where a call is refused: every place has 16 bits, since a table has at most 2,047 nodes once rule 1 is passed.
--   Placed rs        <-> each rule of rs is refused at a place of 16 bits, once those before it are passed
--   placed_ruling    : a refusal by such rules has a place of 16 bits
--   species_placed, family_placed, pair_placed : the rules of the trees are such
-- Assumes nothing.
use Prim.Native.Nat.{ℕ, ◌<◌, ◌≤◌}
use native.Mathlib.Omega.{arith}
use mathlib.Core.Path.{◌≡◌, sym, ◌∙◌}
use mathlib.Core.Logic.{inl, inr}
use mathlib.Core.Bool.{Bool}
use mathlib.Core.List.{List, [], ◌∷◌, ◌++◌}
use lib.ListN.{length}
use Rattle.trees.specs.Tables.{Pair}
use Rattle.trees.specs.Rulings.{Ruling, accepted, refused, Rule, whole, each, ruling, Passes, Fails, Every, done, and}
use Rattle.trees.specs.Rules.{root_rules, child_rules, shape_rules, species_rules, family_rules, gene_rules, pair_rules}
use Rattle.trees.proofs.Bools.{clash}
use Rattle.trees.proofs.Rulings.{rule_cases, ruling_pass, ruling_fail}
use Rattle.trees.proofs.Soundness.{sized_is}

-- rules each of which is refused at a place of 16 bits, once those before it are passed
pub data Placed : List Rule → Type 0 where
  none : Placed []
  next : {r : Rule} {rs : List Rule} → ((v : ℕ) → Fails r v → v < 65536) → (Passes r → Placed rs) → Placed (r ∷ rs)

same_place : {A : Type 0} {n m t u v w : ℕ} → ◌≡◌ {A = Ruling A} (refused n t v) (refused m u w) → v ≡ w
same_place e = cc

pub placed_ruling : {A : Type 0} (rs : List Rule) → Placed rs → (a : A) (n t v : ℕ) → ruling rs a ≡ refused n t v → v < 65536
placed_ruling [] p a n t v e = let f : accepted a ≡ refused n t v = unfold ruling in e in clash (cc)
placed_ruling (r ∷ rs) (next f g) a n t v e =
    elim (rule_cases r) [
      | inl h ↦ placed_ruling rs (g h) a n t v (sym (ruling_pass r rs a h) ∙ e)
      | inr h ↦ let z : h.0 ≡ v = same_place (sym (ruling_fail r rs a h.0 h.1) ∙ e) in omega (arith, f h.0 h.1)
    ]

pub placed_join : (rs ss : List Rule) → Placed rs → (Every Passes rs → Placed ss) → Placed (rs ++ ss)
placed_join [] ss p f = f done
placed_join (r ∷ rs) ss (next g h) f = next g (λ t. placed_join rs ss (h t) (λ e. f (and t e)))

pub whole_place : (n t p : ℕ) (b : Bool) → p ≤ 65535 → (v : ℕ) → Fails (whole n t p b) v → v < 65536
whole_place n t p b h v f = omega (arith, f.0)

pub each_place : (n t k : ℕ) (ok : ℕ → Bool) → k ≤ 65535 → (v : ℕ) → Fails (each n t k ok) v → v < 65536
each_place n t k ok h v f = omega (arith, f.0)

shape_placed : (t : ℕ) (par tax : List ℕ) → length par ≤ 2047 → Placed (shape_rules t par tax)
unfolding shape_rules root_rules child_rules
shape_placed t par tax h =
    let k : length par ≤ 65535 = omega arith in
    next (each_place 2 t _ _ k)
    (λ w. next (whole_place 2 t 65535 _ (omega arith))
    (λ x. next (each_place 38 t _ _ k)
    (λ y. next (each_place 3 t _ _ k)
    (λ z. next (each_place 4 t _ _ k) (λ u. none)))))

pub species_placed : (sp st : List ℕ) → Placed (species_rules sp st)
unfolding species_rules
species_placed sp st =
    next (whole_place 1 1 0 _ (omega arith))
    (λ s.
    let h : length sp ≤ 2047 = (sized_is sp st s).few in
    let k : length sp ≤ 65535 = omega arith in
    placed_join (shape_rules 1 sp st) _ (shape_placed 1 sp st h) (λ e. next (each_place 5 1 _ _ k) (λ x. none)))

pub family_placed : (w : Pair) → length w.gp ≤ 2047 → Placed (family_rules w)
unfolding family_rules
family_placed w l =
    let k : length w.gp ≤ 65535 = omega arith in
    placed_join (shape_rules 2 w.gp w.gt) _ (shape_placed 2 w.gp w.gt l) (λ e. next (each_place 6 2 _ _ k) (λ x. none))

pub pair_placed : (w : Pair) → Placed (pair_rules w)
unfolding pair_rules gene_rules
pair_placed w =
    placed_join (species_rules w.sp w.st) _ (species_placed w.sp w.st)
    (λ e. next (whole_place 1 2 0 _ (omega arith)) (λ s. family_placed w (sized_is w.gp w.gt s).few))
