-- Losses and climbs, node by node, and how they are tied. Assumes nothing.
use Prim.Native.Nat.{ℕ, ◌+◌, ◌-◌, ◌*◌, ◌<◌}
use native.Mathlib.Omega.{arith}
use mathlib.Core.Path.{◌≡◌, ◌∙◌}
use mathlib.Core.Logic.{inl, inr}
use mathlib.Core.Bool.{Bool}
use mathlib.Core.List.{List}
use lib.ListN.{length}
use lib.Dec.{eqb, ltb}
use borrow.Author.Tests.{lt-ltb, le-ltb}
use Rattle.trees.specs.Lists.{total, one}
use Rattle.trees.specs.Trees.{up, nodes, kids, kid, Leaf, Inner, depth}
use Rattle.trees.specs.Tables.{Pair}
use Rattle.trees.specs.Sound.{Sound}
use Rattle.trees.proofs.Lists.{only, total_cong, total_add, total_none}
use Rattle.trees.proofs.Kids.{Rooted, node_has, has_kids, kids_two, kid_first, kid_second, sum_kids}
use Rattle.trees.proofs.Sound.{trees}
use Rattle.histories.specs.Histories.{History, Agree, least, edge, losses_at, losses, climbs_at, climbs, duplications, speciations, losses_in, climbs_in}
use Rattle.histories.specs.Legal.{Legal}
use Rattle.histories.proofs.Legal.{least_legal}
use Rattle.histories.proofs.Sides.{edge_long}

-- ---- one node

module _ (d : ℕ → ℕ) (gp : List ℕ) (h : History) (g : ℕ) where
  pub climbs_inner : Inner gp g → climbs_at d gp h g ≡ d (h.at (kid gp g 0)) - d (h.at g) + (d (h.at (kid gp g 1)) - d (h.at g))
  unfolding climbs_at total
  climbs_inner i = rw (kids_two gp g i) (omega arith)

  pub climbs_leaf : Leaf gp g → climbs_at d gp h g ≡ 0
  unfolding climbs_at
  climbs_leaf e = total_none (λ c. d (h.at c) - d (h.at g)) (kids gp g) e

  pub losses_inner : Inner gp g → losses_at d gp h g ≡ edge d h g (kid gp g 0) + edge d h g (kid gp g 1)
  unfolding losses_at total
  losses_inner i = rw (kids_two gp g i) (omega arith)

  pub losses_leaf : Leaf gp g → losses_at d gp h g ≡ 0
  unfolding losses_at
  losses_leaf e = total_none (edge d h g) (kids gp g) e

-- ---- the edges from below: each node with a parent is the lower end of one

module _ {gp : List ℕ} (R : Rooted gp) (d : ℕ → ℕ) (h : History) where
  from_below : (f : ℕ → ℕ → ℕ) → total (λ g. total (f g) (kids gp g)) (nodes gp) ≡ total (λ c. only (ltb (up gp c) (length gp)) (f (up gp c) c)) (nodes gp)
  from_below f =
      let e : ℕ → ℕ = λ c. only (ltb (up gp c) (length gp)) (f (up gp c) c) in
      let top : e R.root ≡ 0 = rw (le-ltb (up gp R.root) (length gp) R.root_up) in
      total_cong (λ g. total (f g) (kids gp g)) (λ g. total e (kids gp g)) (nodes gp)
      (λ g t. total_cong (f g) e (kids gp g) (λ c s. let k = has_kids gp s in rw (k.1, lt-ltb g (length gp) (node_has gp t))))
      ∙ omega (arith, sum_kids R e)

  pub climbs_below : climbs d gp h ≡ total (λ c. only (ltb (up gp c) (length gp)) (d (h.at c) - d (h.at (up gp c)))) (nodes gp)
  unfolding climbs climbs_at
  climbs_below = from_below (λ g c. d (h.at c) - d (h.at g))

-- ---- histories that agree at every gene node count alike

module _ (w : Pair) {h k : History} (A : Agree w h k) where
  pub losses_agree : (d : ℕ → ℕ) → losses d w.gp h ≡ losses d w.gp k
  unfolding losses losses_at edge
  losses_agree d =
      total_cong (λ g. total (edge d h g) (kids w.gp g)) (λ g. total (edge d k g) (kids w.gp g)) (nodes w.gp)
      (λ g t. total_cong (edge d h g) (edge d k g) (kids w.gp g)
      (λ c s. let a = A g (node_has w.gp t) in let b = A c (has_kids w.gp s).0 in rw (a.0, a.1, b.0)))

  pub climbs_agree : (d : ℕ → ℕ) → climbs d w.gp h ≡ climbs d w.gp k
  unfolding climbs climbs_at
  climbs_agree d =
      total_cong (λ g. total (λ c. d (h.at c) - d (h.at g)) (kids w.gp g)) (λ g. total (λ c. d (k.at c) - d (k.at g)) (kids w.gp g)) (nodes w.gp)
      (λ g t. total_cong (λ c. d (h.at c) - d (h.at g)) (λ c. d (k.at c) - d (k.at g)) (kids w.gp g)
      (λ c s. let a = A g (node_has w.gp t) in let b = A c (has_kids w.gp s).0 in rw (a.0, b.0)))

  pub duplications_agree : duplications w.gp h ≡ duplications w.gp k
  unfolding duplications
  duplications_agree =
      total_cong (λ g. one (eqb (h.kind g) 2)) (λ g. one (eqb (k.kind g) 2)) (nodes w.gp) (λ g t. rw (A g (node_has w.gp t)).1)

  pub speciations_agree : speciations w.gp h ≡ speciations w.gp k
  unfolding speciations
  speciations_agree =
      total_cong (λ g. one (eqb (h.kind g) 1)) (λ g. one (eqb (k.kind g) 1)) (nodes w.gp) (λ g t. rw (A g (node_has w.gp t)).1)

-- ---- legal histories

module _ {w : Pair} (S : Sound w) {counted : ℕ → Bool} {h : History} (L : Legal w counted h) where
  abbrev d : ℕ → ℕ
  d = depth w.sp counted

  -- no subtraction in the losses of an edge is cut off at 0
  pub edge_exact : (g c : ℕ) → g < length w.gp → Inner w.gp g → c < length w.gp → up w.gp c ≡ g
      → d (h.at g) + one (eqb (h.kind g) 1) + edge d h g c ≡ d (h.at c)
  unfolding edge
  edge_exact g c l i m u = omega (arith, edge_long S L g c l i m u)

  climbs_losses_at : (g : ℕ) → g < length w.gp
      → climbs_at d w.gp h g ≡ losses_at d w.gp h g + (one (eqb (h.kind g) 1) + one (eqb (h.kind g) 1))
  unfolding edge one
  climbs_losses_at g l =
      elim ((trees S).g_two g l) [
        | inl e ↦ rw (climbs_leaf d w.gp h g e, losses_leaf d w.gp h g e, L.leaf_kind g l e)
        | inr i ↦
            let k0 = kid_first w.gp g i in
            let k1 = kid_second w.gp g i in
            omega (
              arith,
              climbs_inner d w.gp h g i,
              losses_inner d w.gp h g i,
              edge_long S L g (kid w.gp g 0) l i k0.0 k0.1,
              edge_long S L g (kid w.gp g 1) l i k1.0 k1.1,
            )
      ]

  -- losses are climbs less two for each speciation: both of its edges count one less
  pub climbs_losses : climbs d w.gp h ≡ losses d w.gp h + 2 * speciations w.gp h
  unfolding climbs losses speciations
  climbs_losses =
      let ns = nodes w.gp in
      let k : ℕ → ℕ = λ g. one (eqb (h.kind g) 1) in
      let ls = losses_at d w.gp h in
      total_cong (climbs_at d w.gp h) (λ g. ls g + (k g + k g)) ns (λ g t. climbs_losses_at g (node_has w.gp t))
      ∙ total_add ls (λ g. k g + k g) ns
      ∙ (let z = total_add k k ns in omega arith)

-- in the least history
pub least_climbs : {w : Pair} → Sound w → climbs_in w ≡ losses_in w (least w) + 2 * speciations w.gp (least w)
least_climbs S = climbs_losses S (least_legal S)
