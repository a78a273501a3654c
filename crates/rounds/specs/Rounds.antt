-- Private to the functions of this crate: what a round of hints shows. Nothing of it is part of a promise.
--   Apart st hints to j   <-> the hints find node j by its taxon, or find nothing and j is behind the round, which ends at `to`
--   Unlike st k           <-> no leaf below k has a taxon that stands at a later node too
--   AllFresh st           <-> rule 5 at every node
--   leaf gt x             == does gene node x carry a taxon?
--   held st gt b x        == does it, and does its taxon stand at a species node below b?
--   leaves_to gt i, held_to st gt b i == how many of the first i gene nodes do
-- Assumes nothing.
use Rattle.std.specs.Prelude.{ℕ, ◌≤◌, ◌<◌, ◌≡◌, ◌⊎◌, ◌≢◌, Bool, not, ◌&&◌, List, length, T, eqb, ltb, Some, None}
use Rattle.trees.specs.Lists.{range, total, one}
use Rattle.trees.specs.Tables.{taxon}
use Rattle.taxa.specs.Searches.{taxon_at, fresh_taxon}
use Rattle.hints.specs.Hints.{ask_of}

pub record Apart (st hints : List ℕ) (to j : ℕ) : Type 0 where
  pub told : taxon st j ≢ 0 → (ask_of st hints (taxon st j) ≡ Some (record { 0 = j })) ⊎ ((ask_of st hints (taxon st j) ≡ None) × (to ≤ j))

pub record Unlike (st : List ℕ) (k : ℕ) : Type 0 where
  pub other : (i j : ℕ) → i < k → i < j → j < length st → taxon st i ≢ 0 → taxon st j ≢ taxon st i

pub record AllFresh (st : List ℕ) : Type 0 where
  pub fresh : (i : ℕ) → i < length st → T (fresh_taxon st i)

unfoldable pub leaf : List ℕ → ℕ → Bool
leaf gt x = not (eqb (taxon gt x) 0)

unfoldable pub held : List ℕ → List ℕ → ℕ → ℕ → Bool
held st gt b x = leaf gt x && ltb (taxon_at st (taxon gt x)) b

abbrev pub leaves_to : List ℕ → ℕ → ℕ
leaves_to gt i = total (λ x. one (leaf gt x)) (range 0 i)

abbrev pub held_to : List ℕ → List ℕ → ℕ → ℕ → ℕ
held_to st gt b i = total (λ x. one (held st gt b x)) (range 0 i)
