-- What each search of rules 3 and 4 means for the ruling, and what comes before them. Assumes nothing.
use Prim.Native.Nat.{ℕ, ◌<◌}
use mathlib.Core.Path.{◌≡◌, ◌∙◌}
use mathlib.Core.List.{List, [], ◌∷◌}
use lib.ListN.{length}
use Rattle.trees.specs.Rulings.{accepted, refused, each, ruling, verdict, fine}
use Rattle.trees.specs.Trees.{kids}
use Rattle.trees.specs.Tables.{taxon}
use Rattle.trees.specs.Rules.{paired, marked, root_rules, child_rules, shape_rules}
use Rattle.trees.proofs.Rulings.{ruling_pass, ruling_stays, verdict_left}
use Rattle.shapes.specs.Counts.{wanted_count}
use Rattle.shapes.proofs.Tests.{wanted_paired, wanted_marked}

module _ (t : ℕ) (par tax : List ℕ) where
  -- ---- rules 2 and 38, then 3 and 4

  pub shape_refused : (n u v : ℕ) → verdict (root_rules t par) ≡ refused n u v → verdict (shape_rules t par tax) ≡ refused n u v
  unfolding shape_rules
  shape_refused n u v e = ruling_stays (root_rules t par) (child_rules t par tax) fine fine n u v e

  pub shape_left : verdict (root_rules t par) ≡ accepted fine → verdict (shape_rules t par tax) ≡ verdict (child_rules t par tax)
  unfolding shape_rules
  shape_left e = verdict_left (root_rules t par) (child_rules t par tax) e

  -- ---- rules 3 and 4

  -- every node has as many children as its taxon wants
  pub shape_wanted : ((k : ℕ) → k < length par → length (kids par k) ≡ wanted_count (taxon tax k)) → verdict (child_rules t par tax) ≡ accepted fine
  unfolding child_rules ruling
  shape_wanted f =
      ruling_pass (each 3 t (length par) (paired par)) (each 4 t (length par) (marked par tax) ∷ []) fine (λ k h. wanted_paired par tax k (f k h))
      ∙ ruling_pass (each 4 t (length par) (marked par tax)) [] fine (λ k h. wanted_marked par tax k (f k h))

  -- rule 3 and then rule 4
  pub refused_3 : (n u v : ℕ) → verdict (each 3 t (length par) (paired par) ∷ []) ≡ refused n u v → verdict (child_rules t par tax) ≡ refused n u v
  unfolding child_rules
  refused_3 n u v e = ruling_stays (each 3 t (length par) (paired par) ∷ []) (each 4 t (length par) (marked par tax) ∷ []) fine fine n u v e

  pub past_3 : verdict (each 3 t (length par) (paired par) ∷ []) ≡ accepted fine → verdict (child_rules t par tax) ≡ verdict (each 4 t (length par) (marked par tax) ∷ [])
  unfolding child_rules
  past_3 e = verdict_left (each 3 t (length par) (paired par) ∷ []) (each 4 t (length par) (marked par tax) ∷ []) e
