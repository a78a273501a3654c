-- The settling of the gene leaves: a place that carries a leaf's taxon is its home. Of the rounds nothing is shown but that they write
-- to gene nodes alone. Assumes nothing.
use Rattle.std.specs.Prelude.{unwrap_or, Some, None, Option}
use Prim.Native.Nat.{ℕ, ◌+◌, ◌≤◌, ◌<◌}
use native.Mathlib.Omega.{arith}
use native.Mathlib.Decide.{ℕ_discrete}
use mathlib.Core.Path.{◌≡◌, refl, sym, ap, ◌∙◌}
use mathlib.Core.Logic.{inl, inr, ◌≢◌}
use mathlib.Core.List.{List}
use lib.ListN.{length, get_or, set}
use lib.Seq.{get_or-set_same, get_or-set_other}
use Rattle.trees.specs.Tables.{Pair, taxon, home}
use Rattle.trees.specs.Spots.{species_spot}
use Rattle.trees.specs.declared.SpeciesNode.{SpeciesNode}
use Rattle.trees.proofs.Spots.{spot_lowest, nowhere_lowest}
use Rattle.trees.proofs.Sound.{home_is, home_one}
use Rattle.taxa.specs.Searches.{taxon_at}
use Rattle.taxa.specs.Promises.{SpeciesOfMeets}
use Rattle.taxa.proofs.Tests.{taxon_cases, tax_leaf}
use Rattle.fills.specs.Filling.{Kept}
use Rattle.fills.specs.Settling.{Carries, Seatable, Settleable, Seated, Settled}
use Rattle.fills.specs.Promises.{Fillable}
use Rattle.fills.proofs.Turns.{kept_self, kept_join, kept_set, leaf_of, Homed}

-- ---- the scan for a taxon that some node carries

module _ (st : List ℕ) (t : ℕ) (r : Option SpeciesNode) (M : SpeciesOfMeets st t r) (C : Seatable st t) where
  pub seat_found : (s : SpeciesNode) → r ≡ Some s → Carries st t s.0
  unfolding taxon_at
  seat_found s e =
      let a : s.0 ≡ taxon_at st t = spot_lowest _ _ s.0 (sym (ap species_spot e) ∙ M) in
      elim (taxon_cases st t) [ inl k ↦ rw a (k.0, k.1) | inr k ↦ absurd (k.1 C.some.0 C.some.1.0 C.some.1.1) ]

  pub seat_somewhere : r ≡ None → ⊥
  unfolding taxon_at
  seat_somewhere e =
      let a : taxon_at st t ≡ length st = nowhere_lowest _ _ (sym (ap species_spot e) ∙ M) in
      elim (taxon_cases st t) [ inl k ↦ omega (arith, a, k.0) | inr k ↦ k.1 C.some.0 C.some.1.0 C.some.1.1 ]

  -- the node found, or another where there is none
  pub seat_or : (d x : SpeciesNode) → x ≡ unwrap_or r d → Carries st t x.0
  seat_or d x e = go r refl
    where
      go : (o : Option SpeciesNode) → o ≡ r → Carries st t x.0
      go (Some s) z = rw (e, sym z) (seat_found s (sym z))
      go None z = absurd (seat_somewhere (sym z))

-- ---- one leaf

module _ (st gt : List ℕ) (g : ℕ) (p : List ℕ) where
  pub seated_inner : taxon gt g ≡ 0 → Seated st gt g p p
  seated_inner e = record { kept = kept_self (length gt) p; here_now = λ n. absurd (n e); there = λ i n. refl }

  pub seated_leaf : (x : ℕ) → g < length gt → length gt ≤ length p → Carries st (taxon gt g) x → Seated st gt g p (set p g x)
  seated_leaf x h b C =
      record {
        kept = kept_set g x h (kept_self (length gt) p);
        here_now = λ n. rw (get_or-set_same p g x 0 (omega arith)) C;
        there = λ i n. get_or-set_other p g i x 0 n;
      }

-- ---- the leaves in turn

pub settled_start : (st gt p p' : List ℕ) → Kept (length gt) p p' → Settled st gt 0 p p'
settled_start st gt p p' K = record { kept = K; at_home = λ g h. absurd (omega arith) }

pub settled_turn : {st gt : List ℕ} {k : ℕ} (p p₁ p₂ : List ℕ) → Settled st gt k p p₁ → Seated st gt k p₁ p₂ → Settled st gt (k + 1) p p₂
settled_turn {k = k} p p₁ p₂ S T =
    record {
      kept = kept_join S.kept T.kept;
      at_home = λ g h n. elim (ℕ_discrete g k) [ yes z ↦ rw z (T.here_now (rw z at n)) | no z ↦ rw (T.there g z) (S.at_home g (omega arith) n) ];
    }

-- all of them, from before the rounds on
pub settled_end : {st gt : List ℕ} {k : ℕ} (p p₁ p₂ : List ℕ) → Kept (length gt) p p₁ → length gt ≤ k → Settled st gt k p₁ p₂ → Settled st gt (length gt) p p₂
settled_end p p₁ p₂ K b S = record { kept = kept_join K S.kept; at_home = λ g h n. S.at_home g (omega arith) n }

-- ---- what it is for

module _ {w : Pair} {p l : List ℕ} (X : Fillable w p l) where
  even : length w.gt ≡ length w.gp
  even = X.sound.genes.even

  pub settleable : Settleable w.st w.gt p
  settleable =
      let ev : length w.st ≡ length w.sp = X.sound.species.tree.even in
      record {
        roomy = record { some = omega (arith, X.sound.species.tree.some); few = omega (arith, X.sound.species.tree.few); room = rw even X.places_room };
        known = λ g h n. let b : g < length w.gp = rw even at h in let i = home_is X.sound g b (leaf_of X.sound g b n) in (home w g, (omega (arith, i.0), i.2));
      }

  pub settled_home : (p' : List ℕ) → Settled w.st w.gt (length w.gt) p p' → Homed w p p'
  settled_home p' T =
      let ev : length w.st ≡ length w.sp = X.sound.species.tree.even in
      record {
        kept = rw even at T.kept;
        at_home = λ g h e.
            let n : taxon w.gt g ≢ 0 = X.sound.genes.leaf_tax g h e in
            let c = T.at_home g (rw even h) n in
            let b : get_or p' g 0 < length w.sp = omega (arith, c.0) in
            home_one X.sound g (get_or p' g 0) h e b (tax_leaf X.sound.species.tree (get_or p' g 0) b (λ z. n (sym c.1 ∙ z))) c.1;
      }
