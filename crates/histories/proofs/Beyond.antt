-- Against a legal history: its places lie at or above the least ones, and the losses that it has beyond them are accounted for exactly.
-- Assumes nothing.
use Prim.Native.Nat.{ℕ, ◌+◌, ◌-◌, ◌*◌, ◌≤◌, ◌<◌}
use native.Mathlib.Omega.{arith}
use native.Mathlib.Decide.{ℕ_discrete}
use mathlib.Core.Path.{◌≡◌, sym, ap, ap₂, ◌∙◌}
use mathlib.Core.Logic.{inl, inr}
use mathlib.Core.Bool.{Bool, not}
use mathlib.Core.List.{List}
use lib.ListN.{length}
use lib.Dec.{T, eqb, ltb}
use borrow.Author.Tests.{lt-ltb, le-ltb}
use Rattle.trees.specs.Lists.{total, one, first}
use Rattle.trees.specs.Trees.{none, up, Below, here, step, nodes, kids, kid, Leaf, Inner, is_leaf, depth}
use Rattle.trees.specs.Tables.{Pair}
use Rattle.trees.specs.Sound.{Sound}
use Rattle.trees.proofs.Bools.{T_true}
use Rattle.trees.proofs.Lists.{only, first_has, total_cong, total_add, total_keep, total_none}
use Rattle.trees.proofs.Lines.{trans, low_node, depth_le}
use Rattle.trees.proofs.Kids.{Rooted, has_node, node_has, kids_two, kid_first, kid_second, via_kid, not_over, siblings, sum_kids}
use Rattle.trees.proofs.Sound.{trees, is_leaf_lem, not_leaf}
use Rattle.histories.specs.Places.{place}
use Rattle.histories.specs.Histories.{History, label, least, edge, losses_at, losses}
use Rattle.histories.specs.Legal.{Legal}
use Rattle.histories.specs.Lifts.{inner_nodes, root, lift, extra, lifts, extras}
use Rattle.histories.proofs.Places.{place_leaf, place_under, place_first, place_second}
use Rattle.histories.proofs.Labels.{label_leaf, label_one, label_cases}
use Rattle.histories.proofs.Legal.{least_legal_over}
use Rattle.histories.proofs.Sides.{sided, edge_long}
use Rattle.histories.proofs.Counts.{losses_leaf}

-- the node without a parent is the root
pub root_is : {par : List ℕ} (R : Rooted par) → root par ≡ R.root
unfolding root
root_is {par} R =
    let top : ℕ → Bool = λ g. not (ltb (up par g) (length par)) in
    let f = first_has top R.root (nodes par) none (has_node par R.root_in) (rw (le-ltb (up par R.root) (length par) R.root_up) tt) in
    elim (ℕ_discrete (first top (nodes par) none) R.root) [
      | yes e ↦ e
      | no e ↦ absurd (rw (lt-ltb (up par (first top (nodes par) none)) (length par) (R.others (first top (nodes par) none) (node_has par f.1) e)) at f.0)
    ]

-- ---- places and labels

module _ {w : Pair} (S : Sound w) {counted : ℕ → Bool} {h : History} (L : Legal w counted h) where
  legal_below : {g x : ℕ} → Below w.gp g x → Below w.sp (h.at g) (h.at x)
  legal_below {g} (here l) = here (L.at_node g l)
  legal_below {g} {x} (step l p) = trans (L.descent x l (low_node p)) (legal_below p)

  -- the least place is at or below the offered one, which is above every home
  pub place_lower : (g : ℕ) → g < length w.gp → Below w.sp (h.at g) (place w g)
  place_lower g l = place_under S g (h.at g) l (λ x e b. rw (L.leaf_at x (low_node b) e) at (legal_below b))

  -- An offered speciation is a least one, at the same place: its children's places lie below two different children of it, so the least
  -- places of the children do too, and these meet at no lower node.
  pub speciation_same : (g : ℕ) → g < length w.gp → Inner w.gp g → h.kind g ≡ 1 → (place w g ≡ h.at g) × (label w g ≡ 1)
  speciation_same g l i k =
      let G = (trees S).s.ground in
      let a = sided S L g l k in
      let p = trans (place_lower (kid w.gp g 0) (kid_first w.gp g i).0) a.in0 in
      let q = trans (place_lower (kid w.gp g 1) (kid_second w.gp g i).0) a.in1 in
      let e : place w g ≡ h.at g =
      elim (via_kid (place_lower g l)) [
        | inl z ↦ z
        | inr c ↦ absurd (a.apart
            (siblings G (c.2 ∙ sym a.up0) (trans (place_first S g l i) c.3) p ∙ sym (siblings G (c.2 ∙ sym a.up1) (trans (place_second S g l i) c.3) q)))
      ] in (
        e,
        label_one w g i (λ z. not_over G {c = a.s0} (rw (z ∙ e ∙ sym a.up0) at p)) (λ z. not_over G {c = a.s1} (rw (z ∙ e ∙ sym a.up1) at q)),
      )

  -- so every least duplication is a duplication in h
  pub duplication_same : (g : ℕ) → g < length w.gp → label w g ≡ 2 → h.kind g ≡ 2
  duplication_same g l e =
      elim ((trees S).g_two g l) [
        | inl z ↦ absurd (omega (arith, label_leaf w g z))
        | inr i ↦ elim (L.inner_kind g l i) [ inl k ↦ absurd (omega (arith, (speciation_same g l i k).1)) | inr k ↦ k ]
      ]

  -- 1 for a speciation of ours is 1 for one of theirs or 1 for a duplication that only they have
  pub extra_is : (g : ℕ) → g < length w.gp → one (eqb (h.kind g) 1) + extra w h g ≡ one (eqb (label w g) 1)
  unfolding extra one
  extra_is g l =
      elim ((trees S).g_two g l) [
        | inl e ↦ rw (L.leaf_kind g l e, label_leaf w g e)
        | inr i ↦
            elim (L.inner_kind g l i) [
              | inl k ↦ rw (k, (speciation_same g l i k).1)
              | inr k ↦ elim (label_cases w g i) [ inl m ↦ rw (k, m.0) | inr m ↦ rw (k, m.0) ]
            ]
      ]

-- ---- one edge

sub_back : (a b : ℕ) → b ≤ a → a - b + b ≡ a
sub_back a b h = omega arith

sub_sub_back : (a b c : ℕ) → b + c ≤ a → a - b - c + (b + c) ≡ a
sub_sub_back a b c h = omega arith

-- depths of the offered places of g and its child, of the least ones, and 1 for a speciation of theirs, of ours
one_edge : (hg hc mg mc k e l : ℕ) → hg + k ≤ hc → mg + l ≤ mc → k + e ≡ l → hg ≤ mg → hc ≤ mc
    → hc - hg - k + (mc - hc) ≡ mc - mg - l + (mg - hg + e)
one_edge hg hc mg mc k e l a b c p q =
    omega (arith, sub_sub_back hc hg k a, sub_back mc hc q, sub_sub_back mc mg l b, sub_back mg hg p)

-- ---- the sum

module _ {w : Pair} (S : Sound w) {counted : ℕ → Bool} {h : History} (L : Legal w counted h) (K : (g : ℕ) → g < length w.gp → T (counted (place w g))) where
  abbrev d : ℕ → ℕ
  d = depth w.sp counted

  edge_beyond : (g c : ℕ) → g < length w.gp → Inner w.gp g → c < length w.gp → up w.gp c ≡ g
      → edge d h g c + lift d w h c ≡ edge d (least w) g c + (lift d w h g + extra w h g)
  unfolding edge lift
  edge_beyond g c l i m u =
      one_edge (d (h.at g)) (d (h.at c)) (d (place w g)) (d (place w c)) (one (eqb (h.kind g) 1)) (extra w h g) (one (eqb (label w g) 1))
      (edge_long S L g c l i m u) (edge_long S (least_legal_over S counted K) g c l i m u) (extra_is S L g l)
      (depth_le (trees S).s.ground counted (place_lower S L g l)) (depth_le (trees S).s.ground counted (place_lower S L c m))

  pub lift_leaf : (g : ℕ) → g < length w.gp → Leaf w.gp g → lift d w h g ≡ 0
  unfolding lift
  lift_leaf g l e = rw (place_leaf S g l e, L.leaf_at g l e) (omega arith)

  pub extra_leaf : (g : ℕ) → g < length w.gp → Leaf w.gp g → extra w h g ≡ 0
  unfolding extra one
  extra_leaf g l e = rw (L.leaf_kind g l e)

  -- what the edges down from g have beyond ours, and the lifts of its children
  node_beyond : (g : ℕ) → g < length w.gp
      → losses_at d w.gp h g + total (lift d w h) (kids w.gp g) ≡ losses_at d w.gp (least w) g + (lift d w h g + lift d w h g + (extra w h g + extra w h g))
  unfolding losses_at total
  node_beyond g l =
      elim ((trees S).g_two g l) [
        | inl e ↦
            omega (
              arith,
              losses_leaf d w.gp h g e,
              losses_leaf d w.gp (least w) g e,
              total_none (lift d w h) (kids w.gp g) e,
              lift_leaf g l e,
              extra_leaf g l e,
            )
        | inr i ↦
            let k0 = kid_first w.gp g i in
            let k1 = kid_second w.gp g i in
            rw (kids_two w.gp g i) (omega (arith, edge_beyond g (kid w.gp g 0) l i k0.0 k0.1, edge_beyond g (kid w.gp g 1) l i k1.0 k1.1))
      ]

  -- leaves have no lift, so the sum may run over all gene nodes
  pub lifts_all : lifts d w h ≡ total (lift d w h) (nodes w.gp)
  unfolding lifts inner_nodes
  lifts_all =
      total_keep (lift d w h) (λ g. not (is_leaf w.gp g)) (nodes w.gp)
      ∙ total_cong (λ g. only (not (is_leaf w.gp g)) (lift d w h g)) (lift d w h) (nodes w.gp)
      (λ g t. let l = node_has w.gp t in
      elim ((trees S).g_two g l) [
        | inl e ↦ rw (T_true {b = is_leaf w.gp g} (is_leaf_lem w.gp g e)) (sym (lift_leaf g l e))
        | inr i ↦ rw (not_leaf w.gp g i)
      ])

  -- The losses beyond ours: the lifts of the inner gene nodes, the root's lift, and 2 for each duplication that only h has. On each edge
  -- the lower end's lift is saved and the upper end's paid, an inner node has two edges down, and every node but the root has one up.
  pub beyond : losses d w.gp h ≡ losses d w.gp (least w) + (lifts d w h + lift d w h (root w.gp) + 2 * extras w h)
  unfolding losses extras
  beyond =
      let ns = nodes w.gp in
      let eh = losses_at d w.gp h in
      let em = losses_at d w.gp (least w) in
      let li = lift d w h in
      let ex = extra w h in
      let lk : ℕ → ℕ = λ g. total li (kids w.gp g) in
      let sums : total eh ns + total lk ns ≡ total em ns + (total li ns + total li ns + (total ex ns + total ex ns)) =
      sym (total_add eh lk ns)
      ∙ total_cong (λ g. eh g + lk g) (λ g. em g + (li g + li g + (ex g + ex g))) ns (λ g t. node_beyond g (node_has w.gp t))
      ∙ total_add em (λ g. li g + li g + (ex g + ex g)) ns
      ∙ ap (λ v. total em ns + v) (total_add (λ g. li g + li g) (λ g. ex g + ex g) ns ∙ ap₂ ◌+◌ (total_add li li ns) (total_add ex ex ns)) in
      rw (root_is (trees S).g, lifts_all) (omega (arith, sums, sum_kids (trees S).g li))
