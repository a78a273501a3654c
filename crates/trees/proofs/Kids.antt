-- Children of a node, and sums over them. Assumes nothing.
use Prim.Native.Nat.{ℕ, ◌+◌, ◌≤◌, ◌<◌}
use native.Mathlib.Omega.{arith}
use native.Mathlib.Decide.{ℕ_discrete}
use mathlib.Core.Path.{◌≡◌, refl, sym, ap₂, ◌∙◌}
use mathlib.Core.Logic.{◌⊎◌, inl, inr, ◌≢◌}
use mathlib.Core.Bool.{true}
use mathlib.Core.List.{List, [], ◌∷◌}
use lib.ListN.{length, get_or, get_or-eq_default}
use lib.Dec.{T, eqb, eqb→eq, eqb_refl}
use borrow.Author.Tests.{eq-eqb, ne_eqb}
use Rattle.trees.specs.Lists.{has, total, one}
use Rattle.trees.specs.Trees.{none, up, Below, here, step, nodes, kids, kid, Leaf, Inner}
use Rattle.trees.proofs.Lists.{only, total_cong, total_add, total_swap, total_keep, total_at, total_out, has_range, range_has, has_keep, keep_has, keep_asc, has_head, has_tail, has_cases}
use Rattle.trees.proofs.Lines.{Grounded, proper, line_up, depth_below}

pub record Rooted (par : List ℕ) : Type 0 where
  pub ground : Grounded par
  pub fits : length par ≤ none
  pub root : ℕ
  pub root_in : root < length par
  pub root_up : length par ≤ up par root
  pub others : (c : ℕ) → c < length par → c ≢ root → up par c < length par

module _ (par : List ℕ) where
  pub has_node : {x : ℕ} → x < length par → T (has x (nodes par))
  unfolding nodes
  has_node {x} h = has_range 0 (length par) x (omega arith) (omega arith)

  pub node_has : {x : ℕ} → T (has x (nodes par)) → x < length par
  unfolding nodes
  node_has {x} t = omega (arith, range_has 0 (length par) x t)

  pub kids_has : {g c : ℕ} → c < length par → up par c ≡ g → T (has c (kids par g))
  unfolding kids
  kids_has {g} {c} h e = has_keep (λ i. eqb (up par i) g) c (nodes par) (rw e (eqb_refl g)) (has_node h)

  pub has_kids : {g c : ℕ} → T (has c (kids par g)) → (c < length par) × (up par c ≡ g)
  unfolding kids
  has_kids {g} {c} t = let k = keep_has (λ i. eqb (up par i) g) c (nodes par) t in (node_has k.1, eqb→eq (up par c) g k.0)

two : (l : List ℕ) → length l ≡ 2 → l ≡ get_or l 0 none ∷ get_or l 1 none ∷ []
two [] e = absurd (omega arith)
two (x ∷ []) e = absurd (omega arith)
two (x ∷ y ∷ []) e = refl
two (x ∷ y ∷ z ∷ l) e = absurd (omega arith)

module _ (par : List ℕ) (g : ℕ) (i : Inner par g) where
  pub kids_two : kids par g ≡ kid par g 0 ∷ kid par g 1 ∷ []
  unfolding kid
  kids_two = two (kids par g) i

  pub kid_first : (kid par g 0 < length par) × (up par (kid par g 0) ≡ g)
  kid_first = has_kids par (rw kids_two (has_head (kid par g 0) (kid par g 1 ∷ [])))

  pub kid_second : (kid par g 1 < length par) × (up par (kid par g 1) ≡ g)
  kid_second = has_kids par (rw kids_two (has_tail (kid par g 1) (kid par g 0) (kid par g 1 ∷ []) (has_head (kid par g 1) [])))

  pub kid_order : kid par g 0 < kid par g 1
  unfolding nodes kids
  kid_order = keep_asc (λ c. eqb (up par c) g) 0 (length par) (kid par g 0) (kid par g 1) [] kids_two

pub none_has : (l : List ℕ) (x : ℕ) → length l ≡ 0 → T (has x l) → ⊥
unfolding has
none_has [] x e t = t
none_has (y ∷ l) x e t = omega arith

-- at a, or at or below a child of a
pub via_kid : {par : List ℕ} {a x : ℕ} → Below par a x → (x ≡ a) ⊎ ((c : ℕ) × (c < length par) × (up par c ≡ a) × Below par c x)
via_kid (here l) = inl refl
via_kid (step {x = x} l p) = elim (via_kid p) [ inl e ↦ inr (x, l, e, here l) | inr k ↦ inr (k.0, k.1, k.2, step l k.3) ]

pub leaf_alone : {par : List ℕ} {g x : ℕ} → Leaf par g → Below par g x → x ≡ g
leaf_alone {par} {g} e b = elim (via_kid b) [ inl q ↦ q | inr k ↦ absurd (none_has (kids par g) k.0 e (kids_has par k.1 k.2)) ]

pub no_kid : (par : List ℕ) (g i : ℕ) → Leaf par g → kid par g i ≡ none
unfolding kid
no_kid par g i e = get_or-eq_default (kids par g) none (omega arith)

-- a child of an inner node is the first or the second
pub either_kid : (par : List ℕ) (g c : ℕ) → Inner par g → c < length par → up par c ≡ g → (c ≡ kid par g 0) ⊎ (c ≡ kid par g 1)
unfolding has
either_kid par g c i h u =
    elim (has_cases c (kid par g 0) (kid par g 1 ∷ []) (rw (kids_two par g i) at (kids_has par h u)))
    [ inl e ↦ inl e | inr r ↦ elim (has_cases c (kid par g 1) [] r) [ inl e ↦ inr e | inr z ↦ absurd z ] ]

pub via_two : {par : List ℕ} {g x : ℕ} → Inner par g → Below par g x → (x ≡ g) ⊎ (Below par (kid par g 0) x ⊎ Below par (kid par g 1) x)
via_two {par} {g} {x} i b =
    elim (via_kid b) [
      | inl e ↦ inl e
      | inr k ↦ inr (elim (either_kid par g k.0 i k.1 k.2) [ inl e ↦ inl (rw e at k.3) | inr e ↦ inr (rw e at k.3) ])
    ]

module _ {par : List ℕ} (G : Grounded par) where
  -- no node is at or above its parent
  pub not_over : {c : ℕ} → Below par c (up par c) → ⊥
  unfolding one
  not_over {c} p = omega (arith, depth_below G (λ y. true) c p)

  sib : {c s : ℕ} → up par c ≡ up par s → Below par c s → s ≡ c
  sib {c} e b = elim (proper b) [ inl q ↦ q | inr q ↦ absurd (not_over {c = c} (rw e q)) ]

  -- two children of one node have nothing in common
  pub siblings : {c s y : ℕ} → up par c ≡ up par s → Below par c y → Below par s y → s ≡ c
  siblings e p q = elim (line_up p q) [ inl b ↦ sib e b | inr b ↦ sym (sib (sym e) b) ]

-- each node but the root is one child of one node
module _ {par : List ℕ} (R : Rooted par) (f : ℕ → ℕ) where
  regroup : total (λ g. total f (kids par g)) (nodes par) ≡ total (λ c. total (λ g. only (eqb (up par c) g) (f c)) (nodes par)) (nodes par)
  unfolding kids
  regroup =
      total_cong (λ g. total f (kids par g)) (λ g. total (λ c. only (eqb (up par c) g) (f c)) (nodes par)) (nodes par) (λ g t. total_keep f (λ c. eqb (up par c) g) (nodes par))
      ∙ total_swap (λ g c. only (eqb (up par c) g) (f c)) (nodes par) (nodes par)

  -- the parent's share of c, and the root's
  share : (c : ℕ) → T (has c (nodes par)) → total (λ g. only (eqb (up par c) g) (f c)) (nodes par) + only (eqb R.root c) (f c) ≡ f c
  unfolding nodes
  share c t =
      elim (ℕ_discrete R.root c) [
        | yes e ↦ rw (eq-eqb R.root c e) (omega (arith, total_out (λ g. f c) (up par c) (nodes par) (λ y s. omega (arith, node_has par s, rw e at R.root_up))))
        | no e ↦
            let u : up par c < length par = R.others c (node_has par t) (omega arith) in
            rw (ne_eqb R.root c e) (omega (arith, total_at (λ g. f c) (up par c) 0 (length par) (omega arith) (omega arith)))
      ]

  pub sum_kids : total (λ g. total f (kids par g)) (nodes par) + f R.root ≡ total f (nodes par)
  unfolding nodes
  sum_kids =
      let at-root : total (λ c. only (eqb R.root c) (f c)) (nodes par) ≡ f R.root = total_at f R.root 0 (length par) (omega arith) (omega (arith, R.root_in)) in
      ap₂ ◌+◌ regroup (sym at-root)
      ∙ sym (total_add (λ c. total (λ g. only (eqb (up par c) g) (f c)) (nodes par)) (λ c. only (eqb R.root c) (f c)) (nodes par))
      ∙ total_cong (λ c. total (λ g. only (eqb (up par c) g) (f c)) (nodes par) + only (eqb R.root c) (f c)) f (nodes par) share
