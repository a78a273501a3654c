-- What the functions of this crate promise.
--   JudgeRepeatsMeets st r   <-> r is rule 5, over the taxa alone: refused at the lowest node that fails it, else `Ok`
--   JudgeKnownMeets st gt r  <-> r is rule 6, over the taxa alone
--   SpeciesOfMeets st t r    <-> r is the lowest species node that carries t, or nowhere
-- Assumes nothing.
use Rattle.std.specs.Prelude.{ℕ, ◌≡◌, not, List, [], ◌∷◌, length, eqb, Option}
use Rattle.trees.specs.Tables.{taxon}
use Rattle.trees.specs.Rulings.{each, verdict}
use Rattle.trees.specs.Spots.{lowest_spot, species_spot}
use Rattle.trees.specs.Answers.{judged_of}
use Rattle.trees.specs.Answers.{Judged}
use Rattle.trees.specs.declared.SpeciesNode.{SpeciesNode}
use Rattle.taxa.specs.Searches.{fresh_taxon, known_taxon}

abbrev pub JudgeRepeatsMeets : List ℕ → Judged → Type 0
JudgeRepeatsMeets st r = judged_of r ≡ verdict (each 5 1 (length st) (fresh_taxon st) ∷ [])

abbrev pub JudgeKnownMeets : List ℕ → List ℕ → Judged → Type 0
JudgeKnownMeets st gt r = judged_of r ≡ verdict (each 6 2 (length gt) (known_taxon st gt) ∷ [])

abbrev pub SpeciesOfMeets : List ℕ → ℕ → Option SpeciesNode → Type 0
SpeciesOfMeets st t r = species_spot r ≡ lowest_spot (λ s. not (eqb (taxon st s) t)) (length st)
