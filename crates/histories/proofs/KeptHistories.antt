-- Histories over the kept species nodes: nothing above the place of the gene root is kept, the least history is legal, and demand 3.
-- Assumes nothing.
use Prim.Native.Nat.{ℕ, ◌<◌}
use native.Mathlib.Omega.{arith}
use mathlib.Core.Path.{◌≡◌, sym, ◌∙◌}
use mathlib.Core.Logic.{inl, inr, ◌≢◌}
use lib.ListN.{length}
use lib.Dec.{T}
use Rattle.trees.specs.Lists.{one}
use Rattle.trees.specs.Trees.{up, line, Below, here, step, kid, Leaf, depth}
use Rattle.trees.specs.Tables.{Pair, home}
use Rattle.trees.specs.Sound.{Sound}
use Rattle.trees.proofs.Bools.{test, true_T}
use Rattle.trees.proofs.Lists.{total_cong, total_zero}
use Rattle.trees.proofs.Lines.{trans, antisym, top_node, line_up, off_line}
use Rattle.trees.proofs.Kids.{kid_first, kid_second, kid_order, via_two, not_over, siblings}
use Rattle.trees.proofs.Roots.{all_root}
use Rattle.trees.proofs.Sound.{trees}
use Rattle.histories.specs.Places.{place}
use Rattle.histories.specs.Histories.{History, least}
use Rattle.histories.specs.Kept.{kept}
use Rattle.histories.specs.Legal.{Legal}
use Rattle.histories.specs.Lifts.{root, lift}
use Rattle.histories.proofs.Places.{place_over}
use Rattle.histories.proofs.Legal.{least_legal_over}
use Rattle.histories.proofs.Beyond.{root_is, place_lower}
use Rattle.histories.proofs.Demand.{Third, third_over}
use Rattle.histories.proofs.Kept.{kept_is, place_kept}

module _ {w : Pair} (S : Sound w) where
  abbrev top : ℕ
  top = place w (root w.gp)

  -- the place of the gene root is above every home
  root_over : (x : ℕ) → x < length w.gp → Leaf w.gp x → Below w.sp top (home w x)
  root_over x l e = place_over S (root w.gp) x e (rw (root_is (trees S).g) (all_root (trees S).g x l))

  -- a child of s is not above the place of the gene root if the other child has a home at or below it
  not_above : (s c c' x : ℕ) → up w.sp c ≡ s → up w.sp c' ≡ s → c ≢ c' → x < length w.gp → Leaf w.gp x
      → Below w.sp c' (home w x) → Below w.sp c top → ⊥
  not_above s c c' x u u' n l e b a = n (siblings (trees S).s.ground (u' ∙ sym u) b (trans (root_over x l e) a))

  -- Every kept node is at or below the place of the gene root: above it a node has homes below one child alone.
  pub above_root : (s : ℕ) → s < length w.sp → T (kept w s) → Below w.sp top s
  above_root s l t =
      elim ((kept_is S s l).0 t) [
        | inl k ↦ let x = k.1 in rw x.3 at (root_over x.0 x.1 x.2)
        | inr k ↦
            let i = k.0 in
            let x = k.1 in
            let y = k.2 in
            let p0 = kid_first w.sp s i in
            let p1 = kid_second w.sp s i in
            let o = kid_order w.sp s i in
            let d : Below w.sp s (kid w.sp s 0) = step p0.0 (rw p0.1 (here l)) in
            elim (line_up (root_over x.0 x.1 x.2) (trans x.3 d)) [
              | inl b ↦ b
              | inr b ↦ elim (via_two i b) [
                | inl e ↦ rw e (here l)
                | inr r ↦ elim r [
                  | inl a ↦ absurd (not_above s (kid w.sp s 0) (kid w.sp s 1) y.0 p0.1 p1.1 (omega arith) y.1 y.2 y.3 a)
                  | inr a ↦ absurd (not_above s (kid w.sp s 1) (kid w.sp s 0) x.0 p1.1 p0.1 (omega arith) x.1 x.2 x.3 a)
                ]
              ]
            ]
      ]

  -- so it has no kept proper ancestor
  pub root_depth : depth w.sp (kept w) top ≡ 0
  unfolding depth one
  root_depth =
      let ns = line w.sp (up w.sp top) in
      total_cong (λ x. one (kept w x)) (λ x. 0) ns
      (λ x m. let b : Below w.sp x (up w.sp top) = off_line w.sp m in
      elim (test (kept w x)) [
        | inl e ↦ absurd (not_over (trees S).s.ground {c = top} (trans b (above_root x (top_node b) (true_T e))))
        | inr e ↦ rw e
      ])
      ∙ total_zero ns

  -- and a legal history has the gene root there: its place is kept, and at or above ours
  pub root_lift : (h : History) → Legal w (kept w) h → (h.at (root w.gp) ≡ top) × (lift (depth w.sp (kept w)) w h (root w.gp) ≡ 0)
  unfolding lift
  root_lift h L =
      let r : root w.gp < length w.gp = rw (root_is (trees S).g) (trees S).g.root_in in (
        antisym (trees S).s.ground (above_root (h.at (root w.gp)) (L.at_node (root w.gp) r) (L.at_counted (root w.gp) r)) (place_lower S L (root w.gp) r),
        omega (arith, root_depth),
      )

  -- the least history is legal over the kept nodes
  pub kept_legal : Legal w (kept w) (least w)
  kept_legal = least_legal_over S (kept w) (place_kept S)

  -- Demand 3 over the kept nodes: a legal history has a duplication wherever ours has one, at least as many losses, and as many only if
  -- it is ours.
  pub kept_third : (h : History) → Legal w (kept w) h → Third w (kept w) h
  kept_third h L = third_over S L (place_kept S)
