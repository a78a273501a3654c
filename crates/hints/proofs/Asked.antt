-- What a question to the hints tells: an answer is a node that carries the taxon. And the question's loop, a probe a turn. Assumes
-- nothing.
use Rattle.std.specs.Prelude.{None, Some, Option}
use Prim.Native.Nat.{ℕ, zero, suc, ◌+◌, ◌-◌, ◌%◌, ◌<◌}
use native.Mathlib.Omega.{arith}
use mathlib.Core.Path.{◌≡◌, sym, ap, ◌∙◌}
use mathlib.Core.Logic.{inl, inr}
use mathlib.Core.Bool.{true, false}
use mathlib.Core.List.{List}
use lib.ListN.{length, get_or}
use lib.Dec.{T, eqb, ltb, eqb→eq, ltb→lt}
use Rattle.trees.specs.Tables.{taxon}
use Rattle.trees.specs.declared.SpeciesNode.{SpeciesNode}
use Rattle.trees.proofs.Bools.{and_left, and_right, test, true_T, clash, pick_yes, pick_no}
use Rattle.hints.specs.Hints.{slot_of_lem, hits, probed, probe, ask_of}

-- a node that carries the taxon
abbrev pub Carries : List ℕ → ℕ → ℕ → Type 0
Carries st t s = (s < length st) × (taxon st s ≡ t)

hits_is : (st : List ℕ) (t h : ℕ) → T (hits st t h) → Carries st t (h - 1)
unfolding hits
hits_is st t h x =
    let a = ltb (h - 1) (length st) in
    let b = eqb (taxon st (h - 1)) t in
    (ltb→lt (h - 1) (length st) (and_left a b x), eqb→eq (taxon st (h - 1)) t (and_right a b x))

-- ---- a probe

pub probed_empty : (st : List ℕ) (t h : ℕ) (next : Option SpeciesNode) → eqb h 0 ≡ true → probed st t h next ≡ None
unfolding probed
probed_empty st t h next e = pick_yes (eqb h 0) _ _ e

pub probed_hit : (st : List ℕ) (t h : ℕ) (next : Option SpeciesNode) → eqb h 0 ≡ false → hits st t h ≡ true → probed st t h next ≡ Some (record { 0 = h - 1 })
unfolding probed
probed_hit st t h next e f = pick_no (eqb h 0) _ _ e ∙ pick_yes (hits st t h) _ _ f

pub probed_next : (st : List ℕ) (t h : ℕ) (next : Option SpeciesNode) → eqb h 0 ≡ false → hits st t h ≡ false → probed st t h next ≡ next
unfolding probed
probed_next st t h next e f = pick_no (eqb h 0) _ _ e ∙ pick_no (hits st t h) _ _ f

pub probe_more : (st hints : List ℕ) (t k at : ℕ) → 0 < k → probe st hints t k at ≡ probed st t (get_or hints (at % 512) 0) (probe st hints t (k - 1) (at + 1))
unfolding probe
probe_more st hints t zero at h = absurd (omega arith)
probe_more st hints t (suc k) at h = let e : suc k - 1 ≡ k = omega arith in rw e

pub probe_none : (st hints : List ℕ) (t k at : ℕ) → k ≡ 0 → probe st hints t k at ≡ None
unfolding probe
probe_none st hints t k at e = rw e

-- a turn of the loop: a probe at `at`, and those behind it
pub probe_turn : (st hints : List ℕ) (t last at : ℕ) (r : Option SpeciesNode) → at < last → probe st hints t (last - at) at ≡ r
    → probed st t (get_or hints (at % 512) 0) (probe st hints t (last - (at + 1)) (at + 1)) ≡ r
probe_turn st hints t last at r h e =
    let d : last - at - 1 ≡ last - (at + 1) = omega arith in
    rw d at (sym (probe_more st hints t (last - at) at (omega arith)) ∙ e)

-- ---- an answer

at_is : (a b : SpeciesNode) → Some a ≡ Some b → a.0 ≡ b.0
at_is a b e = ap (λ (n : SpeciesNode). n.0) (inside a b e)
  where
    inside : (a b : SpeciesNode) → Some a ≡ Some b → a ≡ b
    inside a b e = cc

probe_at : (st hints : List ℕ) (t k at : ℕ) (s : SpeciesNode) → probe st hints t k at ≡ Some s → Carries st t s.0
unfolding probe
probe_at st hints t zero at s e = clash (cc)
probe_at st hints t (suc k) at s e =
    let h = get_or hints (at % 512) 0 in
    let next = probe st hints t k (at + 1) in
    elim (test (eqb h 0)) [
      | inl z ↦ let q : None ≡ Some s = sym (probed_empty st t h next z) ∙ e in clash (cc)
      | inr z ↦ elim (test (hits st t h)) [
        | inl y ↦ rw (at_is (record { 0 = h - 1 }) s (sym (probed_hit st t h next z y) ∙ e)) at (hits_is st t h (true_T y))
        | inr y ↦ probe_at st hints t k (at + 1) s (sym (probed_next st t h next z y) ∙ e)
      ]
    ]

-- the answer is a node that carries the taxon
pub ask_at : (st hints : List ℕ) (t : ℕ) (s : SpeciesNode) → ask_of st hints t ≡ Some s → Carries st t s.0
unfolding ask_of
ask_at st hints t s e = probe_at st hints t 512 (slot_of_lem t) s e
