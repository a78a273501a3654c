-- The tests of rules 5 and 6 over the tables of taxa are the rules' own. Assumes nothing.
use Prim.Native.Nat.{ℕ, ◌<◌}
use native.Mathlib.Omega.{arith}
use native.Mathlib.Decide.{ℕ_discrete}
use mathlib.Core.Path.{◌≡◌, sym, ◌∙◌}
use mathlib.Core.Logic.{◌⊎◌, inl, inr, ◌≢◌}
use mathlib.Core.Bool.{Bool, not}
use mathlib.Core.List.{List}
use lib.ListN.{length, take}
use lib.Seq.{length-take-le, get_or-take}
use lib.Dec.{T, eqb, ltb, eqb→eq, eqb_refl, ltb→lt, lt→ltb}
use borrow.Author.Tests.{eq-eqb, not-false}
use Rattle.trees.specs.Lists.{lowest}
use Rattle.trees.specs.Spots.{spot, lowest_spot}
use Rattle.trees.specs.Trees.{Leaf}
use Rattle.trees.specs.Tables.{taxon, Pair}
use Rattle.trees.specs.Sound.{SoundTree}
use Rattle.trees.specs.Rules.{fresh, known}
use Rattle.trees.proofs.Bools.{or_left, or_right, or_cases, true_T, T-same}
use Rattle.trees.proofs.Lists.{lowest_is, lowest_cases}
use Rattle.trees.proofs.Spots.{spot_found}
use Rattle.trees.proofs.Soundness.{fresh_is, is_fresh, known_is, is_known}
use Rattle.taxa.specs.Searches.{taxon_at, fresh_taxon, known_taxon}

-- where a taxon is found, and where not
pub taxon_cases : (tax : List ℕ) (t : ℕ)
    → ((taxon_at tax t < length tax) × (taxon tax (taxon_at tax t) ≡ t)) ⊎ ((taxon_at tax t ≡ length tax) × ((s : ℕ) → s < length tax → taxon tax s ≢ t))
unfolding taxon_at
taxon_cases tax t =
    let ok : ℕ → Bool = λ s. not (eqb (taxon tax s) t) in
    elim (lowest_cases ok (length tax)) [
      | inl r ↦ inl (r.0, eqb→eq (taxon tax (lowest ok (length tax))) t (true_T (not-false (eqb (taxon tax (lowest ok (length tax))) t) r.1)))
      | inr r ↦ inr (r.0, λ s h e. absurd (rw (eq-eqb (taxon tax s) t e) at (r.1 s h)))
    ]

-- the first node that carries the taxon is the spot
pub spot_here : (tax : List ℕ) (t i : ℕ) → i < length tax → taxon tax i ≡ t → ((k : ℕ) → k < i → T (not (eqb (taxon tax k) t)))
    → spot i ≡ lowest_spot (λ s. not (eqb (taxon tax s) t)) (length tax)
spot_here tax t i h e f =
    let ok : ℕ → Bool = λ s. not (eqb (taxon tax s) t) in
    sym (spot_found ok (length tax) i (sym (lowest_is ok (length tax) i h (rw (eq-eqb _ _ e)) f)) h)

-- a node with a taxon is a leaf
pub tax_leaf : {par tax : List ℕ} → SoundTree par tax → (i : ℕ) → i < length par → taxon tax i ≢ 0 → Leaf par i
tax_leaf S i h n = elim (S.two i h) [ inl e ↦ e | inr e ↦ absurd (n (S.inner_tax i h e)) ]

module _ {sp st : List ℕ} (S : SoundTree sp st) where
  pub fresh_same : (i : ℕ) → i < length sp → fresh_taxon st i ≡ fresh sp st i
  unfolding fresh_taxon
  fresh_same i h =
      let t = taxon st i in
      let ev : length st ≡ length sp = S.even in
      let len : length (take i st) ≡ i = length-take-le i st (omega arith) in
      T-same (fresh_taxon st i) (fresh sp st i)
      (λ a. is_fresh sp st i (λ e j l f q.
      elim (or_cases (eqb t 0) (eqb (taxon_at (take i st) t) i) a) [
        | inl z ↦ S.leaf_tax i h e (eqb→eq t 0 z)
        | inr z ↦ elim (taxon_cases (take i st) t) [
          | inl r ↦ omega (arith, r.0, eqb→eq (taxon_at (take i st) t) i z)
          | inr r ↦ r.1 j (omega arith) (get_or-take i st j 0 l ∙ q)
        ]
      ]))
      (λ b. elim (ℕ_discrete t 0) [
        | yes z ↦ or_left (eqb t 0) (eqb (taxon_at (take i st) t) i) (rw z tt)
        | no z ↦ or_right (eqb t 0) (eqb (taxon_at (take i st) t) i)
            (elim (taxon_cases (take i st) t) [
              | inl r ↦
                  let j = taxon_at (take i st) t in
                  let l : j < i = omega (arith, r.0) in
                  let q : taxon st j ≡ t = sym (get_or-take i st j 0 l) ∙ r.1 in
                  absurd (fresh_is sp st i j l (tax_leaf S i h z) (tax_leaf S j (omega arith) (rw q z)) b q)
              | inr r ↦ rw (r.0, len) (eqb_refl i)
            ])
      ])

module _ {w : Pair} (S : SoundTree w.sp w.st) (G : SoundTree w.gp w.gt) where
  pub known_same : (x : ℕ) → x < length w.gp → known_taxon w.st w.gt x ≡ known w x
  unfolding known_taxon
  known_same x h =
      let t = taxon w.gt x in
      let ev : length w.st ≡ length w.sp = S.even in
      let n = length w.st in
      T-same (known_taxon w.st w.gt x) (known w x)
      (λ a. is_known w x (λ e.
      elim (or_cases (eqb t 0) (ltb (taxon_at w.st t) n) a) [
        | inl z ↦ absurd (G.leaf_tax x h e (eqb→eq t 0 z))
        | inr z ↦ elim (taxon_cases w.st t) [
          | inl r ↦ let s = taxon_at w.st t in
              (s, omega (arith, r.0), tax_leaf S s (omega (arith, r.0)) (λ q. G.leaf_tax x h e (sym r.1 ∙ q)), r.1)
          | inr r ↦ absurd (omega (arith, ltb→lt (taxon_at w.st t) n z, r.0))
        ]
      ]))
      (λ b. elim (ℕ_discrete t 0) [
        | yes z ↦ or_left (eqb t 0) (ltb (taxon_at w.st t) n) (rw z tt)
        | no z ↦ or_right (eqb t 0) (ltb (taxon_at w.st t) n)
            (elim (taxon_cases w.st t) [
              | inl r ↦ lt→ltb (taxon_at w.st t) n r.0
              | inr r ↦ let k = known_is w x b (tax_leaf G x h z) in absurd (r.1 k.0 (omega (arith, k.1)) k.3)
            ])
      ])
