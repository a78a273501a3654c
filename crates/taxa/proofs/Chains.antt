-- Chains of nodes by taxon: how they begin, how they grow, and what a search along one finds. Assumes nothing.
use Rattle.std.specs.Prelude.{Some, None, Option, is_some, is_none}
use Prim.Native.Nat.{ℕ, ◌+◌, ◌-◌, ◌≤◌, ◌<◌}
use native.Mathlib.Omega.{arith}
use native.Mathlib.Decide.{ℕ_discrete}
use mathlib.Core.Path.{◌≡◌, sym, ap, ◌∙◌}
use mathlib.Core.Logic.{◌≢◌, inl, inr}
use mathlib.Core.Bool.{true, false, not}
use mathlib.Core.List.{List}
use lib.ListN.{length, get_or, set, take, replicate, get_or-replicate}
use lib.Seq.{get_or-set_same, get_or-set_other, get_or-take, length-take-le}
use borrow.Author.Tests.{eq-eqb, ne_eqb, le-ltb, lt-ltb}
use Rattle.trees.specs.Tables.{taxon}
use Rattle.trees.specs.Answers.{Judged}
use Rattle.trees.specs.declared.SpeciesNode.{SpeciesNode}
use Rattle.taxa.specs.Searches.{taxon_at, fresh_taxon, known_taxon}
use Rattle.trees.proofs.Slots.{slot_below}
use Rattle.trees.proofs.Rulings.{one_passed}
use Rattle.taxa.specs.declared.ByTaxon.{ByTaxon}
use Rattle.taxa.specs.Chains.{slot_of_lem, Last, FoundBy, Chained, Entered, Indexed, Alone}
use Rattle.taxa.proofs.Tests.{taxon_cases}

pub slot_low : (t : ℕ) → slot_of_lem t < 2048
slot_low t = slot_below t 2048 (omega arith)

-- no node below 0
pub last_none : (tax : List ℕ) (s : ℕ) → Last tax s 0 0
last_none tax s = record { low = omega arith; own = λ h. absurd (omega arith); past = λ k a b. absurd (omega arith) }

-- the two tables that entering begins with
pub chained_start : (tax : List ℕ) (n : ℕ) → length tax ≤ n → n ≤ 2047 → Chained {n = n} tax 0 (record { heads = replicate 2048 0; earlier = replicate n 0 })
chained_start tax n room few =
    record {
      few = few;
      room = room;
      head = λ s h. rw (get_or-replicate {A = ℕ} 2048 s 0 0 h) (last_none tax s);
      link = λ j h. absurd (omega arith);
    }

-- a node without a taxon, or in another chain, changes nothing
last_other : (tax : List ℕ) (s i p : ℕ) → (taxon tax i ≢ 0 → slot_of_lem (taxon tax i) ≢ s) → Last tax s i p → Last tax s (i + 1) p
last_other tax s i p other L =
    let low : p ≤ i = L.low in
    record {
      low = omega arith;
      own = L.own;
      past = λ k a b. elim (ℕ_discrete k i) [
        | yes e ↦ λ n. rw (sym e) at (other (rw e at n))
        | no e ↦ L.past k a (omega arith)
      ];
    }

pub chained_skip : {n : ℕ} {tax : List ℕ} {c : ByTaxon n} {i : ℕ} → taxon tax i ≡ 0 → Chained tax i c → Chained tax (i + 1) c
chained_skip {n} {tax} {c} {i} z C =
    record {
      few = C.few;
      room = C.room;
      head = λ s h. last_other tax s i (get_or c.heads s 0) (λ m. absurd (m z)) (C.head s h);
      link = λ j h. elim (ℕ_discrete j i) [ yes e ↦ λ m. absurd (m (rw (sym e) at z)) | no e ↦ C.link j (omega arith) ];
    }

-- node i heads its chain, with a pointer to what headed it before
pub chained_enter : {n : ℕ} {tax : List ℕ} {c : ByTaxon n} {i : ℕ} → length c.heads ≡ 2048 → length c.earlier ≡ n → i < length tax → taxon tax i ≢ 0 → Chained tax i c
    → Chained {n = n} tax (i + 1) (record { heads = set c.heads (slot_of_lem (taxon tax i)) (i + 1); earlier = set c.earlier i (get_or c.heads (slot_of_lem (taxon tax i)) 0) })
chained_enter {n} {tax} {c} {i} slots wide h more C =
    let t = slot_of_lem (taxon tax i) in
    let heads = c.heads in
    let earlier = c.earlier in
    let below : t < 2048 = slot_low (taxon tax i) in
    let room : length tax ≤ length earlier = omega (arith, C.room, wide) in
    let back : i + 1 - 1 ≡ i = omega arith in
    record {
      few = C.few;
      room = C.room;
      head = λ s l. elim (ℕ_discrete s t) [
        | yes e ↦ rw (e, get_or-set_same heads t (i + 1) 0 (omega arith))
            (record { low = omega arith; own = λ a. (rw back more, ap (λ v. slot_of_lem (taxon tax v)) back); past = λ k a b. absurd (omega arith) })
        | no e ↦ rw (get_or-set_other heads t s (i + 1) 0 e) (last_other tax s i (get_or heads s 0) (λ m q. e (sym q)) (C.head s l))
      ];
      link = λ j l m. elim (ℕ_discrete j i) [
        | yes e ↦ rw (e, get_or-set_same earlier i (get_or heads t 0) 0 (omega arith)) (C.head t below)
        | no e ↦ rw (get_or-set_other earlier i j (get_or heads t 0) 0 e) (C.link j (omega arith) m)
      ];
    }

-- ---- a search

-- the nodes below i alone, as the part of the table that a search is handed
last_part : (tax : List ℕ) (i s b p : ℕ) → i ≤ length tax → b ≤ i → Last tax s b p → Last (take i tax) s b p
last_part tax i s b p room h L =
    let low : p ≤ b = L.low in
    record {
      low = low;
      own = λ a. rw (get_or-take i tax (p - 1) 0 (omega arith)) (L.own a);
      past = λ k a l. rw (get_or-take i tax k 0 (omega arith)) (L.past k a l);
    }

pub chained_part : {n : ℕ} {tax : List ℕ} {c : ByTaxon n} {i : ℕ} → i ≤ length tax → Chained tax i c → Chained (take i tax) (length (take i tax)) c
chained_part {n} {tax} {c} {i} room C =
    let len : length (take i tax) ≡ i = length-take-le i tax room in
    let wide : length tax ≤ n = C.room in
    record {
      few = C.few;
      room = omega arith;
      head = λ s l. rw len (last_part tax i s i (get_or c.heads s 0) room (omega arith) (C.head s l));
      link = λ j l. rw (get_or-take i tax j 0 (omega arith)) (λ m. last_part tax i (slot_of_lem (taxon tax j)) j (get_or c.earlier j 0) room (omega arith) (C.link j (omega arith) m));
    }

-- where a search along the chain of t stands: nothing from `at` on carries t
pub record Seeking (tax : List ℕ) (t at : ℕ) : Type 0 where
  pub low : at ≤ length tax
  pub own : 1 ≤ at → (taxon tax (at - 1) ≢ 0) × (slot_of_lem (taxon tax (at - 1)) ≡ slot_of_lem t)
  pub past : (k : ℕ) → at ≤ k → k < length tax → taxon tax k ≢ t

module _ (tax : List ℕ) (t : ℕ) (n : t ≢ 0) where
  -- a node of another chain carries another taxon
  elsewhere : (k : ℕ) → (taxon tax k ≢ 0 → slot_of_lem (taxon tax k) ≢ slot_of_lem t) → taxon tax k ≢ t
  elsewhere k other e = other (λ z. n (sym e ∙ z)) (ap slot_of_lem e)

  pub seeking_start : {m : ℕ} {c : ByTaxon m} → Chained tax (length tax) c → Seeking tax t (get_or c.heads (slot_of_lem t) 0)
  seeking_start C = let L = C.head (slot_of_lem t) (slot_low t) in record { low = L.low; own = L.own; past = λ k a b. elsewhere k (L.past k a b) }

-- ---- what is found

pub fresh_by : (tax : List ℕ) (i : ℕ) → i < length tax → taxon tax i ≢ 0 → (r : Option SpeciesNode) → FoundBy (take i tax) (taxon tax i) r → fresh_taxon tax i ≡ is_none r
unfolding fresh_taxon
fresh_by tax i h n (Some s) F =
    let t = taxon tax i in
    rw (ne_eqb t 0 n) (elim (taxon_cases (take i tax) t) [
      | inl c ↦ ne_eqb (taxon_at (take i tax) t) i (λ e. omega (arith, c.0, length-take-le i tax (omega arith)))
      | inr c ↦ absurd (c.1 s.0 F.0 F.1)
    ])
fresh_by tax i h n None F =
    let t = taxon tax i in
    rw (ne_eqb t 0 n) (elim (taxon_cases (take i tax) t) [
      | inl c ↦ absurd (F (taxon_at (take i tax) t) c.0 c.1)
      | inr c ↦ eq-eqb (taxon_at (take i tax) t) i (c.0 ∙ length-take-le i tax (omega arith))
    ])

pub known_by : (st gt : List ℕ) (x : ℕ) → taxon gt x ≢ 0 → (r : Option SpeciesNode) → FoundBy st (taxon gt x) r → known_taxon st gt x ≡ is_some r
unfolding known_taxon
known_by st gt x n (Some s) F =
    let t = taxon gt x in
    rw (ne_eqb t 0 n) (elim (taxon_cases st t) [ inl c ↦ lt-ltb (taxon_at st t) (length st) c.0 | inr c ↦ absurd (c.1 s.0 F.0 F.1) ])
known_by st gt x n None F =
    let t = taxon gt x in
    rw (ne_eqb t 0 n) (elim (taxon_cases st t) [ inl c ↦ absurd (F (taxon_at st t) c.0 c.1) | inr c ↦ le-ltb (taxon_at st t) (length st) (omega (arith, c.0)) ])

-- ---- what entering a node leaves

module _ {m : ℕ} {tax : List ℕ} {c : ByTaxon m} {i : ℕ} (h : i < length tax) (C : Chained tax i c) where
  pub entered_inner : taxon tax i ≡ 0 → Entered tax i c true
  unfolding fresh_taxon
  entered_inner z = record { test = rw (eq-eqb (taxon tax i) 0 z); chained = λ t. chained_skip z C }

  module _ (n : taxon tax i ≢ 0) (r : Option SpeciesNode) (F : FoundBy (take i tax) (taxon tax i) r) where
    pub entered_twice : is_some r ≡ true → Entered tax i c false
    entered_twice e = record { test = sym (fresh_by tax i h n r F ∙ ap not e); chained = λ t. absurd t }

    pub entered_new : length c.heads ≡ 2048 → length c.earlier ≡ m → (s : ℕ) → s ≡ slot_of_lem (taxon tax i) → is_some r ≡ false
        → Entered {n = m} tax i (record { heads = set c.heads s (i + 1); earlier = set c.earlier i (get_or c.heads s 0) }) true
    entered_new slots wide s e z = record { test = sym (fresh_by tax i h n r F ∙ ap not z); chained = λ t. rw e (chained_enter slots wide h n C) }

-- all nodes in their chains, where no taxon stands twice
pub indexed_alone : {n : ℕ} {tax : List ℕ} {c : ByTaxon n} {r : Judged} → Alone tax → Indexed tax c r → Chained tax (length tax) c
indexed_alone {n} {tax} A X = X.chained (X.found ∙ one_passed 5 1 (length tax) (fresh_taxon tax) A.fresh)
