-- Rule 5 by rounds: what the hints answer depends on the taxon alone, so that two leaves of one taxon would have had one answer.
-- Assumes nothing.
use Rattle.std.specs.Prelude.{Some, None, Option, is_some, is_none}
use Prim.Native.Nat.{ℕ, ◌+◌, ◌≤◌, ◌<◌}
use native.Mathlib.Omega.{arith}
use native.Mathlib.Decide.{ℕ_discrete, dec_lt}
use mathlib.Core.Path.{◌≡◌, sym, ap, ◌∙◌}
use mathlib.Core.Logic.{inl, inr, ◌≢◌}
use mathlib.Core.Bool.{Bool, not}
use mathlib.Core.List.{List}
use lib.ListN.{length, take}
use lib.Seq.{length-take-le, get_or-take}
use lib.Dec.{eqb}
use Rattle.trees.specs.Spots.{spot, species_spot}
use Rattle.trees.specs.Tables.{taxon}
use Rattle.trees.specs.declared.SpeciesNode.{SpeciesNode}
use Rattle.trees.proofs.Bools.{or_left, true_T, clash}
use Rattle.trees.proofs.Spots.{spot_none, spot_lowest, nowhere_lowest, node_one}
use Rattle.taxa.specs.Searches.{taxon_at, fresh_taxon}
use Rattle.taxa.specs.Chains.{FoundBy}
use Rattle.taxa.specs.Promises.{SpeciesOfMeets}
use Rattle.taxa.proofs.Tests.{taxon_cases}
use Rattle.taxa.proofs.Chains.{fresh_by}
use Rattle.hints.specs.Hints.{ask_of}
use Rattle.rounds.specs.Rounds.{Apart, Unlike, AllFresh}

-- what a scan found
pub scan_by : (tax : List ℕ) (t : ℕ) (r : Option SpeciesNode) → SpeciesOfMeets tax t r → FoundBy tax t r
unfolding taxon_at
scan_by tax t (Some s) e =
    let ok : ℕ → Bool = λ x. not (eqb (taxon tax x) t) in
    let k : s.0 ≡ taxon_at tax t = spot_lowest ok (length tax) s.0 e in
    elim (taxon_cases tax t) [ inl c ↦ rw k c | inr c ↦ let f = e ∙ spot_none ok (length tax) c.0 in clash (cc) ]
scan_by tax t None e =
    let k : taxon_at tax t ≡ length tax = nowhere_lowest (λ x. not (eqb (taxon tax x) t)) (length tax) e in
    elim (taxon_cases tax t) [ inl c ↦ absurd (omega (arith, c.0)) | inr c ↦ c.1 ]

-- rule 5 at a leaf, by a scan of the nodes below it
pub scan_fresh : (tax : List ℕ) (i : ℕ) → i < length tax → taxon tax i ≢ 0 → (r : Option SpeciesNode) → SpeciesOfMeets (take i tax) (taxon tax i) r → fresh_taxon tax i ≡ is_none r
scan_fresh tax i h n r e = fresh_by tax i h n r (scan_by (take i tax) (taxon tax i) r e)

-- an inner node, and a leaf that the hints find or do not know
pub apart_inner : (st hints : List ℕ) (to j : ℕ) → taxon st j ≡ 0 → Apart st hints to j
apart_inner st hints to j z = record { told = λ n. absurd (n z) }

pub apart_found : (st hints : List ℕ) (to j : ℕ) (r : Option SpeciesNode) (s : SpeciesNode) → r ≡ ask_of st hints (taxon st j) → r ≡ Some s → s.0 ≡ j → Apart st hints to j
apart_found st hints to j r s a e q = record { told = λ n. inl (sym a ∙ e ∙ ap Some (node_one s (record { 0 = j }) q)) }

pub apart_missed : (st hints : List ℕ) (to j : ℕ) (r : Option SpeciesNode) → r ≡ ask_of st hints (taxon st j) → r ≡ None → to ≤ j → Apart st hints to j
apart_missed st hints to j r a e h = record { told = λ n. inr (sym a ∙ e, h) }

-- what holds of each number from a on, one more
pub from_none : (P : ℕ → Type 0) (a : ℕ) → (k : ℕ) → a ≤ k → k < a → P k
from_none P a k h l = absurd (omega arith)

pub from_more : (P : ℕ → Type 0) (a i : ℕ) → ((k : ℕ) → a ≤ k → k < i → P k) → P i → (k : ℕ) → a ≤ k → k < i + 1 → P k
from_more P a i f p k h l = elim (ℕ_discrete k i) [ yes e ↦ rw e p | no e ↦ f k h (omega arith) ]

-- a leaf of the round and a later one
apart_two : (st hints : List ℕ) (to i j : ℕ) → i < to → i < j → Apart st hints to i → Apart st hints to j → taxon st i ≢ 0 → taxon st j ≢ taxon st i
apart_two st hints to i j h l A B n e =
    let own : ask_of st hints (taxon st i) ≡ Some (record { 0 = i }) = elim (A.told n) [ inl a ↦ a | inr a ↦ absurd (omega (arith, a.1)) ] in
    elim (B.told (rw e n)) [
      | inl b ↦ let q : Some (record { 0 = i }) ≡ Some (record { 0 = j }) = sym own ∙ ap (ask_of st hints) (sym e) ∙ b in
          let w : spot i ≡ spot j = ap species_spot q in
          let z : i ≡ j = cc in
          omega arith
      | inr b ↦ let q : Some (record { 0 = i }) ≡ None = sym own ∙ ap (ask_of st hints) (sym e) ∙ b.0 in clash (cc)
    ]

pub unlike_none : (st : List ℕ) → Unlike st 0
unlike_none st = record { other = λ i j h. absurd (omega arith) }

pub unlike_round : (st hints : List ℕ) (from to : ℕ) → to ≤ length st → ((j : ℕ) → from ≤ j → j < length st → Apart st hints to j) → Unlike st from → Unlike st to
unlike_round st hints from to low A U =
    record {
      other = λ i j h l b. elim (dec_lt i from) [
        | yes d ↦ U.other i j d l b
        | no d ↦ apart_two st hints to i j h l (A i (omega arith) (omega arith)) (A j (omega arith) b)
      ];
    }

pub unlike_fresh : (st : List ℕ) (k : ℕ) → length st ≤ k → Unlike st k → AllFresh st
unfolding fresh_taxon
unlike_fresh st k h U =
    record {
      fresh = λ i b. elim (ℕ_discrete (taxon st i) 0) [
        | yes z ↦ or_left (eqb (taxon st i) 0) (eqb (taxon_at (take i st) (taxon st i)) i) (rw z tt)
        | no z ↦ true_T (fresh_by st i b z None (λ j l e. let q : j < i = omega (arith, length-take-le i st (omega arith)) in
            let f : taxon st j ≡ taxon st i = sym (get_or-take i st j 0 q) ∙ e in
            U.other j i (omega arith) q b (rw f z) (sym f)))
      ];
    }
