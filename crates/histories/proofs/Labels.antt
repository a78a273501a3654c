-- The labels of the least history. Assumes nothing.
use Prim.Native.Nat.{ℕ}
use native.Mathlib.Omega.{arith}
use native.Mathlib.Decide.{ℕ_discrete}
use mathlib.Core.Path.{◌≡◌}
use mathlib.Core.Logic.{◌⊎◌, inl, inr, ◌≢◌, ◌↔◌}
use mathlib.Core.Bool.{◌||◌, or-false}
use lib.Dec.{eqb}
use borrow.Author.Tests.{eq-eqb, ne_eqb}
use Rattle.trees.specs.Lists.{any, pick}
use Rattle.trees.specs.Trees.{kid, Leaf, Inner, is_leaf}
use Rattle.trees.specs.Tables.{Pair}
use Rattle.trees.proofs.Bools.{test, T_true}
use Rattle.trees.proofs.Kids.{kids_two}
use Rattle.trees.proofs.Sound.{is_leaf_lem, not_leaf}
use Rattle.histories.specs.Places.{place}
use Rattle.histories.specs.Histories.{label}

module _ (w : Pair) (g : ℕ) where
  pub label_leaf : Leaf w.gp g → label w g ≡ 0
  unfolding label pick
  label_leaf e = rw (T_true {b = is_leaf w.gp g} (is_leaf_lem w.gp g e))

  -- an inner node by the places of its two children
  pub label_inner : Inner w.gp g → label w g ≡ pick (eqb (place w (kid w.gp g 0)) (place w g) || eqb (place w (kid w.gp g 1)) (place w g)) 2 1
  unfolding label any pick
  label_inner i = rw (not_leaf w.gp g i, kids_two w.gp g i, or-false (eqb (place w (kid w.gp g 1)) (place w g)))

  -- an inner node is a speciation if neither child shares its place
  pub label_one : Inner w.gp g → place w (kid w.gp g 0) ≢ place w g → place w (kid w.gp g 1) ≢ place w g → label w g ≡ 1
  unfolding label any pick
  label_one i p q =
      rw (not_leaf w.gp g i, kids_two w.gp g i, ne_eqb (place w (kid w.gp g 0)) (place w g) p, ne_eqb (place w (kid w.gp g 1)) (place w g) q)

  -- and a duplication if one does
  pub label_two : Inner w.gp g → (place w (kid w.gp g 0) ≡ place w g) ⊎ (place w (kid w.gp g 1) ≡ place w g) → label w g ≡ 2
  unfolding label any pick
  label_two i (inl e) = rw (not_leaf w.gp g i, kids_two w.gp g i, eq-eqb (place w (kid w.gp g 0)) (place w g) e)
  label_two i (inr e) =
      elim (test (eqb (place w (kid w.gp g 0)) (place w g))) [
        | inl t ↦ rw (not_leaf w.gp g i, kids_two w.gp g i, t)
        | inr t ↦ rw (not_leaf w.gp g i, kids_two w.gp g i, t, eq-eqb (place w (kid w.gp g 1)) (place w g) e)
      ]

  pub label_cases : Inner w.gp g
      → ((label w g ≡ 1) × (place w (kid w.gp g 0) ≢ place w g) × (place w (kid w.gp g 1) ≢ place w g))
      ⊎ ((label w g ≡ 2) × ((place w (kid w.gp g 0) ≡ place w g) ⊎ (place w (kid w.gp g 1) ≡ place w g)))
  label_cases i =
      elim (ℕ_discrete (place w (kid w.gp g 0)) (place w g)) [
        | yes e ↦ inr (label_two i (inl e), inl e)
        | no p ↦ elim (ℕ_discrete (place w (kid w.gp g 1)) (place w g)) [ yes e ↦ inr (label_two i (inr e), inr e) | no q ↦ inl (label_one i p q, p, q) ]
      ]

  -- 003, definition 2
  pub label_shared : Inner w.gp g → (label w g ≡ 2) ↔ ((place w (kid w.gp g 0) ≡ place w g) ⊎ (place w (kid w.gp g 1) ≡ place w g))
  label_shared i = ((λ e. elim (label_cases i) [ inl k ↦ absurd (omega (arith, k.0)) | inr k ↦ k.1 ]), label_two i)
