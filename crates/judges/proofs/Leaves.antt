-- A gene leaf at its species has a species taxon; and no taxon of a sound species tree stands twice. Assumes nothing.
use Prim.Native.Nat.{ℕ, ◌≤◌}
use native.Mathlib.Omega.{arith}
use native.Mathlib.Decide.{ℕ_discrete}
use mathlib.Core.Path.{◌≡◌, sym}
use mathlib.Core.Logic.{inl, inr}
use mathlib.Core.List.{List}
use lib.ListN.{length, get_or}
use lib.Dec.{eqb, ltb, lt→ltb}
use Rattle.trees.specs.Tables.{taxon}
use Rattle.trees.specs.Sound.{SoundSpecies}
use Rattle.trees.proofs.Bools.{or_left, or_right}
use Rattle.trees.proofs.Soundness.{is_fresh}
use Rattle.homes.specs.Homes.{Homed}
use Rattle.taxa.specs.Searches.{taxon_at, known_taxon}
use Rattle.taxa.specs.Chains.{Alone, AllKnown}
use Rattle.taxa.proofs.Tests.{taxon_cases, fresh_same}

pub homed_known : {st gt pl : List ℕ} → Homed st gt pl → AllKnown st gt
unfolding known_taxon
homed_known {st} {gt} {pl} H =
    record {
      known = λ g h. let t = taxon gt g in
          elim (ℕ_discrete t 0) [
            | yes z ↦ or_left (eqb t 0) (ltb (taxon_at st t) (length st)) (rw z tt)
            | no z ↦ or_right (eqb t 0) (ltb (taxon_at st t) (length st))
                (let p = H.home g h z in
                elim (taxon_cases st t) [ inl c ↦ lt→ltb (taxon_at st t) (length st) c.0 | inr c ↦ absurd (c.1 (get_or pl g 0) p.0 p.1) ])
          ];
    }

pub species_alone : {sp st : List ℕ} → SoundSpecies sp st → Alone st
species_alone {sp} {st} S =
    let ev : length st ≡ length sp = S.tree.even in
    let fw : length sp ≤ 2047 = S.tree.few in
    record {
      few = omega arith;
      fresh = λ i h. rw (fresh_same S.tree i (omega arith)) (is_fresh sp st i (λ e j l f q. let z = S.once i j (omega arith) (omega arith) e f (sym q) in omega arith));
    }
