-- The tests of rules 5 and 6 as the code makes them: over the tables of taxa alone.
--   taxon_at tax t           == the lowest node that carries the taxon t; the number of nodes if none does
--   fresh_taxon st i         == rule 5, where rule 4 holds: a node with a taxon is a leaf
--   known_taxon st gt x      == rule 6, where rule 4 holds in both trees
-- proofs/Tests.antt shows that each is the rule's own test. Assumes nothing.
use Rattle.std.specs.Prelude.{ℕ, Bool, not, ◌||◌, List, length, take, eqb, ltb}
use Rattle.trees.specs.Lists.{lowest}
use Rattle.trees.specs.Tables.{taxon}

unfoldable pub taxon_at : List ℕ → ℕ → ℕ
taxon_at tax t = lowest (λ s. not (eqb (taxon tax s) t)) (length tax)

unfoldable pub fresh_taxon : List ℕ → ℕ → Bool
fresh_taxon st i = eqb (taxon st i) 0 || eqb (taxon_at (take i st) (taxon st i)) i

unfoldable pub known_taxon : List ℕ → List ℕ → ℕ → Bool
known_taxon st gt x = eqb (taxon gt x) 0 || ltb (taxon_at st (taxon gt x)) (length st)
