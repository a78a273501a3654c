-- The tests of rules 8 to 11 over the tables are the rules' own, where the trees are sound. Assumes nothing.
use Prim.Native.Nat.{ℕ, ◌<◌}
use mathlib.Core.Path.{◌≡◌, refl, sym, ap, ◌∙◌}
use mathlib.Core.Logic.{inl, inr}
use mathlib.Core.Bool.{Bool, true, false, ◌&&◌}
use mathlib.Core.List.{List}
use lib.ListN.{length, get_or}
use lib.Dec.{eqb, ltb, eqb→eq, eqb_refl}
use borrow.Author.Tests.{eq-eqb, ne_eqb}
use Rattle.trees.specs.Lists.{pick}
use Rattle.trees.specs.Trees.{is_leaf}
use Rattle.trees.specs.Tables.{Pair, taxon}
use Rattle.trees.specs.Sound.{Sound}
use Rattle.trees.proofs.Bools.{or_left, or_right, or_cases, T_true, T-same}
use Rattle.trees.proofs.Sound.{is_leaf_lem, not_leaf, home_is, home_one}
use Rattle.homes.specs.Homes.{homed_by}
use Rattle.taxa.proofs.Tests.{tax_leaf}
use Rattle.histories.specs.Histories.{History, told, every_node}
use Rattle.histories.specs.Rules.{placed, right_kind, fitting, homed, nested, parted}
use Rattle.histories.proofs.Judged.{homed_is, nested_is, parted_is}
use Rattle.fitting.specs.Tests.{fitting_by}
use Rattle.sides.specs.Tests.{nested_by, parted_by}
use Rattle.sides.proofs.Tests.{nested_below, parted_apart}

and_true : (b : Bool) → (b && true) ≡ b
and_true true = refl
and_true false = refl

module _ {w : Pair} (S : Sound w) (pl lb : List ℕ) where
  abbrev h : History
  h = told pl lb

  pub fitting_same : (g : ℕ) → g < length w.gp → fitting_by (length w.sp) w.gt pl lb g ≡ fitting w every_node h g
  unfolding fitting_by fitting placed right_kind pick
  fitting_same g l =
      rw (and_true (ltb (get_or pl g 0) (length w.sp)))
      (ap (λ (b : Bool). ltb (get_or pl g 0) (length w.sp) && b)
      (elim (S.genes.two g l) [
        | inl e ↦ rw (T_true {b = is_leaf w.gp g} (is_leaf_lem w.gp g e), ne_eqb (taxon w.gt g) 0 (S.genes.leaf_tax g l e))
        | inr i ↦ rw (not_leaf w.gp g i, eq-eqb (taxon w.gt g) 0 (S.genes.inner_tax g l i))
      ]))

  module _ (N : (g : ℕ) → g < length w.gp → get_or pl g 0 < length w.sp) where
    -- only the home of a leaf carries its taxon
    pub homed_same : (g : ℕ) → g < length w.gp → homed_by w.st w.gt pl g ≡ homed w h g
    unfolding homed_by
    homed_same g l =
        let t = taxon w.gt g in
        let x = get_or pl g 0 in
        T-same (homed_by w.st w.gt pl g) (homed w h g)
        (λ a. (homed_is w h g).1 (λ e. elim (or_cases (eqb t 0) (eqb (taxon w.st x) t) a) [
          | inl z ↦ absurd (S.genes.leaf_tax g l e (eqb→eq t 0 z))
          | inr z ↦
              let q = eqb→eq (taxon w.st x) t z in
              home_one S g x l e (N g l) (tax_leaf S.species.tree x (N g l) (λ y. S.genes.leaf_tax g l e (sym q ∙ y))) q
        ]))
        (λ b. elim (S.genes.two g l) [
          | inr i ↦ or_left (eqb t 0) (eqb (taxon w.st x) t) (rw (S.genes.inner_tax g l i) tt)
          | inl e ↦ or_right (eqb t 0) (eqb (taxon w.st x) t) (rw ((homed_is w h g).0 b e, (home_is S g l e).2) (eqb_refl t))
        ])

    pub nested_same : (c : ℕ) → c < length w.gp → nested_by w.sp w.gp pl c ≡ nested w h c
    nested_same c l =
        let a = nested_below S.species.tree w.gp pl N c l in
        let b = nested_is S h c in
        T-same (nested_by w.sp w.gp pl c) (nested w h c) (λ t. b.1 (a.0 t)) (λ t. a.1 (b.0 t))

    pub parted_same : (g : ℕ) → g < length w.gp → parted_by w.sp w.gp pl lb g ≡ parted w h g
    parted_same g l =
        let a = parted_apart S.species.tree w.gp pl N lb g l in
        let b = parted_is S h g in
        T-same (parted_by w.sp w.gp pl lb g) (parted w h g) (λ t. b.1 (a.0 t)) (λ t. a.1 (b.0 t))
