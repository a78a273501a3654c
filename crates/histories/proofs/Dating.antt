-- The dating of a gene node is the one that 01 describes, and its bounds are two species nodes, the upper properly above. Assumes nothing.
use Prim.Native.Nat.{ℕ, ◌<◌}
use native.Mathlib.Omega.{arith}
use native.Mathlib.Decide.{ℕ_discrete}
use mathlib.Core.Path.{◌≡◌, refl, sym, ap, ◌∙◌}
use mathlib.Core.Logic.{◌⊎◌, inl, inr, ◌≢◌}
use mathlib.Core.Bool.{Bool}
use lib.ListN.{length}
use lib.Dec.{eqb, eqb→eq}
use borrow.Author.Tests.{ne_eqb, lt-ltb, le-ltb}
use Rattle.trees.specs.Lists.{any, pick}
use Rattle.trees.specs.Trees.{none, up, line, Below}
use Rattle.trees.specs.Tables.{Pair}
use Rattle.trees.specs.Sound.{Sound}
use Rattle.trees.proofs.Bools.{test, true_T}
use Rattle.trees.proofs.Lists.{first_none, first_has, any_has, has_any}
use Rattle.trees.proofs.Lines.{top_node, antisym, on_line, off_line}
use Rattle.trees.proofs.Roots.{first_line}
use Rattle.trees.proofs.Sound.{trees}
use Rattle.histories.specs.Places.{place}
use Rattle.histories.specs.Histories.{label}
use Rattle.histories.specs.Dating.{Dated, not_duplication, from, between, Speciated, IsDated, latest, dated}

module _ {w : Pair} (S : Sound w) (v : ℕ) where
  -- either no proper ancestor is a speciation, or the latest is the nearest of those that are
  pub latest_cases : ((latest w v ≡ none) × ((u : ℕ) → Speciated w v u → ⊥))
      ⊎ (Speciated w v (latest w v) × ((x : ℕ) → Speciated w v x → Below w.gp x (latest w v)))
  unfolding latest
  latest_cases =
      let p : ℕ → Bool = λ u. eqb (label w u) 1 in
      let l = line w.gp (up w.gp v) in
      elim (test (any p l)) [
        | inl e ↦
            let k = has_any p l (true_T e) in
            let f = first_has p k.0 l none k.1 k.2 in
            inr ((off_line w.gp f.1, eqb→eq (label w (latest w v)) 1 f.0), λ x s. (first_line (trees S).g p s.0 (rw s.1 tt)).1)
        | inr e ↦
            let gone : (u : ℕ) → Speciated w v u → ⊥ = (λ u s. rw e at (any_has p u l (on_line (trees S).g.ground s.0) (rw s.1 tt))) in
            inl (first_none p l none (λ x t. ne_eqb (label w x) 1 (λ z. gone x (off_line w.gp t, z))), gone)
      ]

  -- ---- the three answers

  pub dated_not : label w v ≢ 2 → dated w v ≡ not_duplication
  unfolding dated pick
  dated_not n = rw (ne_eqb (label w v) 2 n)

  pub dated_from : label w v ≡ 2 → latest w v ≡ none → dated w v ≡ from (place w v)
  unfolding dated pick
  dated_from e n = rw (e, le-ltb (latest w v) (length w.gp) (omega (arith, (trees S).g.fits)))

  pub dated_between : label w v ≡ 2 → latest w v < length w.gp → dated w v ≡ between (place w v) (place w (latest w v))
  unfolding dated pick
  dated_between e l = rw (e, lt-ltb (latest w v) (length w.gp) l)

  -- the dating is as 01 says
  pub dated_is : IsDated w v (dated w v)
  dated_is =
      elim (ℕ_discrete (label w v) 2) [
        | yes e ↦ elim latest_cases [
          | inl k ↦ rw (dated_from e k.0) (e, refl, k.1)
          | inr k ↦ rw (dated_between e (top_node k.0.0)) (e, refl, (latest w v, k.0, k.1, refl))
        ]
        | no n ↦ rw (dated_not n) n
      ]

  -- and no other is
  pub dated_one : (d : Dated) → IsDated w v d → d ≡ dated w v
  dated_one not_duplication n = sym (dated_not n)
  dated_one (from a) k =
      elim latest_cases [ inl m ↦ ap from k.1 ∙ sym (dated_from k.0 m.0) | inr m ↦ absurd (k.2 (latest w v) m.0) ]
  dated_one (between a b) k =
      let u = k.2.0 in
      elim latest_cases [
        | inl m ↦ absurd (m.1 u k.2.1)
        | inr m ↦
            let e : u ≡ latest w v = antisym (trees S).g.ground (k.2.2 (latest w v) m.0) (m.1 u k.2.1) in
            rw (k.1, k.2.3, e) (sym (dated_between k.0 (top_node m.0.0)))
      ]
