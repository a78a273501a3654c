-- What each step of a judge means for its ruling. Assumes nothing.
use Prim.Native.Nat.{ℕ}
use mathlib.Core.Path.{◌≡◌, refl, sym, ap, ◌∙◌}
use mathlib.Core.Bool.{false, true}
use Rattle.std.specs.Prelude.{is_err, Ok, Err}
use Rattle.trees.specs.Answers.{Judged, judged_of}
use mathlib.Core.List.{List, [], ◌∷◌, ◌++◌}
use lib.ListN.{length}
use lib.Dec.{T}
use Rattle.trees.specs.Rulings.{accepted, refused, whole, each, verdict, fine, number_of, tree_of, Passes, Every}
use Rattle.trees.specs.Tables.{Pair}
use Rattle.trees.specs.Sound.{SoundTree, SoundSpecies}
use Rattle.trees.specs.Rules.{sized, fresh, known, shape_rules, species_rules, family_rules, gene_rules, pair_rules}
use Rattle.trees.proofs.Rulings.{ruling_pass, ruling_fail, ruling_all, ruling_stays, ruling_accepted, one_passed, one_same}
use Rattle.trees.proofs.Soundness.{sized_is, tree_sound, species_sound, species_accepted}
use Rattle.taxa.specs.Searches.{fresh_taxon, known_taxon}
use Rattle.taxa.specs.Chains.{AllKnown}
use Rattle.taxa.proofs.Tests.{fresh_same, known_same}

-- ---- a species tree

module _ (sp st : List ℕ) where
  pub species_1 : sized sp st ≡ false → verdict (species_rules sp st) ≡ refused 1 1 0
  unfolding species_rules number_of tree_of
  species_1 e = ruling_fail (whole 1 1 0 (sized sp st)) _ fine 0 (refl, e)

  module _ (z : T (sized sp st)) where
    past_1 : verdict (species_rules sp st) ≡ verdict (shape_rules 1 sp st ++ each 5 1 (length sp) (fresh sp st) ∷ [])
    unfolding species_rules
    past_1 = ruling_pass (whole 1 1 0 (sized sp st)) _ fine z

    pub species_shape : (n t v : ℕ) → verdict (shape_rules 1 sp st) ≡ refused n t v → verdict (species_rules sp st) ≡ refused n t v
    species_shape n t v e = past_1 ∙ ruling_stays (shape_rules 1 sp st) _ fine fine n t v e

    pub species_stopped : (r : Judged) → judged_of r ≡ verdict (shape_rules 1 sp st) → is_err r ≡ true → judged_of r ≡ verdict (species_rules sp st)
    species_stopped (Err f) e h = sym (species_shape f.number f.tree f.place (sym e))
    species_stopped (Ok x) e h = absurd (cc)

    module _ (a : verdict (shape_rules 1 sp st) ≡ accepted fine) where
      passed : Every Passes (shape_rules 1 sp st)
      passed = (ruling_accepted (shape_rules 1 sp st) fine fine a).0

      tree : SoundTree sp st
      tree = tree_sound sp st 1 z passed

      past_4 : verdict (species_rules sp st) ≡ verdict (each 5 1 (length sp) (fresh sp st) ∷ [])
      past_4 = past_1 ∙ ruling_all (shape_rules 1 sp st) _ fine passed

      -- rule 5 over the taxa alone is what is left
      pub species_repeats : verdict (species_rules sp st) ≡ verdict (each 5 1 (length st) (fresh_taxon st) ∷ [])
      species_repeats =
          past_4 ∙ sym (one_same 5 1 (length sp) (fresh_taxon st) (fresh sp st) (fresh_same tree))
          ∙ ap (λ n. verdict (each 5 1 n (fresh_taxon st) ∷ [])) (sym (sized_is sp st z).even)

-- ---- a gene tree on it

module _ (w : Pair) (S : SoundTree w.sp w.st) (z : T (sized w.gp w.gt)) where
  pub family_shape : (n t v : ℕ) → verdict (shape_rules 2 w.gp w.gt) ≡ refused n t v → verdict (family_rules w) ≡ refused n t v
  unfolding family_rules
  family_shape n t v e = ruling_stays (shape_rules 2 w.gp w.gt) _ fine fine n t v e

  module _ (a : verdict (shape_rules 2 w.gp w.gt) ≡ accepted fine) where
    passed_2 : Every Passes (shape_rules 2 w.gp w.gt)
    passed_2 = (ruling_accepted (shape_rules 2 w.gp w.gt) fine fine a).0

    past_gene_4 : verdict (family_rules w) ≡ verdict (each 6 2 (length w.gp) (known w) ∷ [])
    unfolding family_rules
    past_gene_4 = ruling_all (shape_rules 2 w.gp w.gt) _ fine passed_2

    -- rule 6 over the taxa alone is what is left
    pub family_taxa : verdict (family_rules w) ≡ verdict (each 6 2 (length w.gt) (known_taxon w.st w.gt) ∷ [])
    family_taxa =
        past_gene_4
        ∙ sym (one_same 6 2 (length w.gp) (known_taxon w.st w.gt) (known w) (known_same {w = w} S (tree_sound w.gp w.gt 2 z passed_2)))
        ∙ ap (λ n. verdict (each 6 2 n (known_taxon w.st w.gt) ∷ [])) (sym (sized_is w.gp w.gt z).even)

    -- each gene taxon was found before
    pub family_known : AllKnown w.st w.gt → verdict (family_rules w) ≡ accepted fine
    family_known K = family_taxa ∙ one_passed 6 2 (length w.gt) (known_taxon w.st w.gt) K.known

-- ---- both

module _ (w : Pair) where
  pub pair_species : (n t v : ℕ) → verdict (species_rules w.sp w.st) ≡ refused n t v → verdict (pair_rules w) ≡ refused n t v
  unfolding pair_rules
  pair_species n t v e = ruling_stays (species_rules w.sp w.st) _ fine fine n t v e

  module _ (a : verdict (species_rules w.sp w.st) ≡ accepted fine) where
    pub species_here : SoundSpecies w.sp w.st
    species_here = (species_accepted w.sp w.st).0 a

    past_species : verdict (pair_rules w) ≡ verdict (gene_rules w)
    unfolding pair_rules
    past_species = ruling_all (species_rules w.sp w.st) _ fine ((species_sound w.sp w.st).1 species_here)

    pub pair_1 : sized w.gp w.gt ≡ false → verdict (pair_rules w) ≡ refused 1 2 0
    unfolding gene_rules number_of tree_of
    pair_1 e = past_species ∙ ruling_fail (whole 1 2 0 (sized w.gp w.gt)) _ fine 0 (refl, e)

    pub pair_family : T (sized w.gp w.gt) → verdict (pair_rules w) ≡ verdict (family_rules w)
    unfolding gene_rules
    pair_family z = past_species ∙ ruling_pass (whole 1 2 0 (sized w.gp w.gt)) _ fine z
