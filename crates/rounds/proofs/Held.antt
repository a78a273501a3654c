-- Rule 6 by rounds: a gene leaf is counted in the one round that its species stands in, so that as many counted as there are leaves
-- means that each has a species. Assumes nothing.
use Rattle.std.specs.Prelude.{Some, Option, is_some}
use Prim.Native.Nat.{ℕ, ◌+◌, ◌≤◌, ◌<◌}
use native.Mathlib.Omega.{arith}
use native.Mathlib.Decide.{ℕ_discrete, dec_lt}
use mathlib.Core.Path.{◌≡◌, sym, ◌∙◌}
use mathlib.Core.Logic.{inl, inr, ◌≢◌}
use mathlib.Core.Bool.{Bool, true, false}
use mathlib.Core.List.{List, [], ◌∷◌}
use lib.ListN.{length, take}
use lib.Seq.{length-take-le, get_or-take}
use lib.Dec.{T, eqb, ltb, eqb→eq}
use mir.Val.{bool_byte}
use borrow.Author.Tests.{ne_eqb, lt-ltb, le-ltb}
use Rattle.trees.specs.Lists.{range, has, total, one}
use Rattle.trees.specs.Tables.{taxon}
use Rattle.trees.specs.declared.SpeciesNode.{SpeciesNode}
use Rattle.trees.proofs.Bools.{or_left, or_right, or_cases, test, true_T}
use Rattle.trees.proofs.Lists.{has_cases, has_range, total_le, total_more}
use Rattle.taxa.specs.Searches.{taxon_at, fresh_taxon, known_taxon}
use Rattle.taxa.specs.Chains.{Alone, AllKnown}
use Rattle.taxa.specs.Promises.{SpeciesOfMeets}
use Rattle.taxa.proofs.Tests.{taxon_cases}
use Rattle.taxa.proofs.Chains.{known_by}
use Rattle.hints.specs.Hints.{ask_of}
use Rattle.hints.proofs.Asked.{ask_at}
use Rattle.rounds.specs.Rounds.{leaf, held, leaves_to, held_to}
use Rattle.rounds.proofs.Repeats.{scan_by}

-- rule 6 at a gene leaf, by a scan of the species nodes
pub scan_known : (st gt : List ℕ) (x : ℕ) → taxon gt x ≢ 0 → (r : Option SpeciesNode) → SpeciesOfMeets st (taxon gt x) r → known_taxon st gt x ≡ is_some r
scan_known st gt x n r e = known_by st gt x n r (scan_by st (taxon gt x) r e)

-- ---- no species taxon stands twice

-- a node that carries a taxon is the lowest one that does
alone_at : {st : List ℕ} → Alone st → (t s : ℕ) → t ≢ 0 → s < length st → taxon st s ≡ t → taxon_at st t ≡ s
unfolding fresh_taxon
alone_at {st} A t s n h e =
    let k = taxon_at st t in
    let low : (k < length st) × (taxon st k ≡ t) = elim (taxon_cases st t) [ inl c ↦ c | inr c ↦ absurd (c.1 s h e) ] in
    elim (ℕ_discrete k s) [
      | yes z ↦ z
      | no z ↦ elim (dec_lt k s) [ yes l ↦ absurd (never A k s l h (rw e n) (low.1 ∙ sym e)) | no l ↦ absurd (never A s k (omega arith) low.0 (rw low.1 n) (e ∙ sym low.1)) ]
    ]
  where
    never : {st : List ℕ} → Alone st → (i j : ℕ) → i < j → j < length st → taxon st j ≢ 0 → taxon st i ≢ taxon st j
    never {st} A i j l h n e =
        let len : length (take j st) ≡ j = length-take-le j st (omega arith) in
        elim (or_cases (eqb (taxon st j) 0) (eqb (taxon_at (take j st) (taxon st j)) j) (A.fresh j h)) [
          | inl z ↦ n (eqb→eq (taxon st j) 0 z)
          | inr z ↦ elim (taxon_cases (take j st) (taxon st j)) [
            | inl c ↦ omega (arith, c.0, eqb→eq (taxon_at (take j st) (taxon st j)) j z)
            | inr c ↦ c.1 i (omega arith) (get_or-take j st i 0 l ∙ e)
          ]
        ]

-- ---- one gene node

leaf_one : (gt : List ℕ) (x : ℕ) → taxon gt x ≢ 0 → one (leaf gt x) ≡ 1
unfolding leaf one
leaf_one gt x n = rw (ne_eqb (taxon gt x) 0 n)

module _ (st gt : List ℕ) where
  pub held_leaf : (b x : ℕ) → one (held st gt b x) ≤ one (leaf gt x)
  unfolding held one
  held_leaf b x = elim (test (leaf gt x)) [
    | inl e ↦ elim (test (ltb (taxon_at st (taxon gt x)) b)) [ inl f ↦ rw (e, f) (omega arith) | inr f ↦ rw (e, f) (omega arith) ]
    | inr e ↦ rw e (omega arith)
  ]

  held_more : (a b x : ℕ) → a ≤ b → one (held st gt a x) ≤ one (held st gt b x)
  unfolding held one
  held_more a b x h = elim (test (leaf gt x)) [
    | inl e ↦ elim (dec_lt (taxon_at st (taxon gt x)) a) [
      | yes l ↦ rw (e, lt-ltb (taxon_at st (taxon gt x)) a l, lt-ltb (taxon_at st (taxon gt x)) b (omega arith)) (omega arith)
      | no l ↦ rw (e, le-ltb (taxon_at st (taxon gt x)) a (omega arith)) (omega arith)
    ]
    | inr e ↦ rw e (omega arith)
  ]

  -- what is counted of a gene node: nothing, or the one whose species is found in the round
  pub counts_none : (a b x : ℕ) → a ≤ b → one false + one (held st gt a x) ≤ one (held st gt b x)
  unfolding one
  counts_none a b x h = omega (arith, held_more a b x h)

  held_new : Alone st → (a b x s : ℕ) → taxon gt x ≢ 0 → s < length st → taxon st s ≡ taxon gt x → a ≤ s → s < b → 1 + one (held st gt a x) ≤ one (held st gt b x)
  unfolding held leaf one
  held_new A a b x s n h e l m =
      let k : taxon_at st (taxon gt x) ≡ s = alone_at A (taxon gt x) s n h e in
      rw (ne_eqb (taxon gt x) 0 n, k, le-ltb s a l, lt-ltb s b m) (omega arith)

  pub counts_one : Alone st → (hints : List ℕ) (a b x : ℕ) (r : Option SpeciesNode) (s : SpeciesNode) → a ≤ b → taxon gt x ≢ 0 → r ≡ ask_of st hints (taxon gt x) → r ≡ Some s → a ≤ s.0
      → one (ltb s.0 b) + one (held st gt a x) ≤ one (held st gt b x)
  unfolding one
  counts_one A hints a b x r s h n e f l =
      let k = ask_at st hints (taxon gt x) s (sym e ∙ f) in
      elim (dec_lt s.0 b) [
        | yes m ↦ rw (lt-ltb s.0 b m) (held_new A a b x s.0 n k.0 k.1 l m)
        | no m ↦ rw (le-ltb s.0 b (omega arith)) (counts_none a b x h)
      ]

  held_not : (b x : ℕ) → ltb (taxon_at st (taxon gt x)) b ≡ false → one (held st gt b x) ≡ 0
  unfolding held one
  held_not b x e = elim (test (leaf gt x)) [ inl f ↦ rw (f, e) | inr f ↦ rw f ]

  -- a leaf whose species is below the number of nodes is known
  held_known : (x : ℕ) → one (leaf gt x) ≤ one (held st gt (length st) x) → T (known_taxon st gt x)
  unfolding known_taxon
  held_known x h =
      let t = taxon gt x in
      elim (ℕ_discrete t 0) [
        | yes z ↦ or_left (eqb t 0) (ltb (taxon_at st t) (length st)) (rw z tt)
        | no z ↦ or_right (eqb t 0) (ltb (taxon_at st t) (length st))
            (elim (test (ltb (taxon_at st t) (length st))) [ inl e ↦ true_T e | inr e ↦ absurd (omega (arith, leaf_one gt x z, held_not (length st) x e)) ])
      ]

-- ---- all of them

-- two sums, one at most the other at each member, that are equal are so at each member
sums_same : (f g : ℕ → ℕ) (l : List ℕ) → ((x : ℕ) → f x ≤ g x) → total g l ≤ total f l → (x : ℕ) → T (has x l) → g x ≤ f x
unfolding total has
sums_same f g [] h e x t = absurd t
sums_same f g (y ∷ l) h e x t =
    elim (has_cases x y l t) [
      | inl q ↦ rw q (omega (arith, e, total_le f g l (λ z s. h z)))
      | inr r ↦ sums_same f g l h (omega (arith, e, h y)) x r
    ]

-- one gene node more counted
pub leaves_more : (gt : List ℕ) (i n r : ℕ) → r ≡ bool_byte (leaf gt i) → (n ≤ i) × (n ≡ leaves_to gt i) → (n + r ≤ i + 1) × (n + r ≡ leaves_to gt (i + 1))
unfolding one
leaves_more gt i n r e k =
    let more = total_more (λ x. one (leaf gt x)) i in
    elim (test (leaf gt i)) [
      | inl t ↦ let q : r ≡ 1 = rw t at e in (omega (arith, q, k.0), omega (arith, q, k.1, rw t at more))
      | inr t ↦ let q : r ≡ 0 = rw t at e in (omega (arith, q, k.0), omega (arith, q, k.1, rw t at more))
    ]

pub round_more : (st gt : List ℕ) (a b i n m : ℕ) (d : Bool) → m ≡ n + one d → one d + one (held st gt a i) ≤ one (held st gt b i)
    → (n ≤ i) × (n + held_to st gt a i ≤ held_to st gt b i) → (m ≤ i + 1) × (m + held_to st gt a (i + 1) ≤ held_to st gt b (i + 1))
unfolding one
round_more st gt a b i n m true q e h = (omega (arith, q, h.0), omega (arith, q, e, h.1, total_more (λ x. one (held st gt a x)) i, total_more (λ x. one (held st gt b x)) i))
round_more st gt a b i n m false q e h = (omega (arith, q, h.0), omega (arith, q, e, h.1, total_more (λ x. one (held st gt a x)) i, total_more (λ x. one (held st gt b x)) i))

pub held_few : (st gt : List ℕ) (b i : ℕ) → held_to st gt b i ≤ leaves_to gt i
held_few st gt b i = total_le (λ x. one (held st gt b x)) (λ x. one (leaf gt x)) (range 0 i) (λ x t. held_leaf st gt b x)

-- as many leaves counted as there are
pub held_all : (st gt : List ℕ) (c : ℕ) → c ≡ leaves_to gt (length gt) → c ≤ held_to st gt (length st) (length gt) → AllKnown st gt
held_all st gt c e h =
    record {
      known = λ x l. held_known st gt x (sums_same (λ x. one (held st gt (length st) x)) (λ x. one (leaf gt x)) (range 0 (length gt))
          (held_leaf st gt (length st)) (omega arith) x (has_range 0 (length gt) x (omega arith) (omega arith)));
    }
