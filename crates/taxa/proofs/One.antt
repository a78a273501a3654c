-- One answer only: any two results that meet a contract of this crate are equal. Assumes nothing.
use Prim.Native.Nat.{ℕ}
use mathlib.Core.Bool.{not}
use mathlib.Core.List.{List, [], ◌∷◌}
use lib.ListN.{length}
use lib.Dec.{eqb}
use Rattle.trees.specs.Tables.{taxon}
use Rattle.trees.specs.One.{Single}
use Rattle.trees.specs.Rulings.{each, verdict}
use Rattle.trees.specs.Spots.{lowest_spot, species_spot}
use Rattle.trees.specs.Answers.{judged_of}
use Rattle.trees.proofs.One.{single_view}
use Rattle.trees.proofs.Answers.{judged_one}
use Rattle.trees.proofs.Spots.{species_spot_one}
use Rattle.taxa.specs.Searches.{fresh_taxon, known_taxon}
use Rattle.taxa.specs.Promises.{JudgeRepeatsMeets, JudgeKnownMeets, SpeciesOfMeets}

pub judge_repeats_one : (st : List ℕ) → Single (JudgeRepeatsMeets st)
judge_repeats_one st = single_view judged_of judged_one (verdict (each 5 1 (length st) (fresh_taxon st) ∷ []))

pub judge_known_one : (st gt : List ℕ) → Single (JudgeKnownMeets st gt)
judge_known_one st gt = single_view judged_of judged_one (verdict (each 6 2 (length gt) (known_taxon st gt) ∷ []))

pub species_of_one : (st : List ℕ) (t : ℕ) → Single (SpeciesOfMeets st t)
species_of_one st t = single_view species_spot species_spot_one (lowest_spot (λ s. not (eqb (taxon st s) t)) (length st))
