-- Rules 3 and 4 by how many children a node has, and the table of child counts that they share. The table is private to the functions
-- of this crate: nothing of it is part of a promise.
--   ChildCounts par counts <-> at each node stands how many children it has
--   Zeros par counts   <-> the table that the count begins with: an entry for each node, and zeros alone
--   is_paired k               == rule 3 at a node with k children
--   is_marked k t             == rule 4 at a node with k children and taxon t
--   paired_count counts i     == rule 3, by the count of children
--   marked_count counts tax i == rule 4, by the count of children
--   wanted_count t            == how many children a node with taxon t has in a sound tree: rules 3 and 4 together
-- proofs/Tests.antt shows that each is the rule's own test. Assumes nothing.
use Rattle.std.specs.Prelude.{ℕ, ◌≤◌, ◌<◌, ◌≡◌, Bool, not, ◌||◌, List, length, get_or, replicate, eqb}
use Rattle.trees.specs.Lists.{pick}
use Rattle.trees.specs.Trees.{kids}
use Rattle.trees.specs.Tables.{taxon}

pub record ChildCounts (par counts : List ℕ) : Type 0 where
  pub room : length par ≤ length counts
  pub count : (i : ℕ) → i < length par → get_or counts i 0 ≡ length (kids par i)

pub record Zeros (par counts : List ℕ) : Type 0 where
  pub room : length par ≤ length counts
  pub zero : counts ≡ replicate (length counts) 0

unfoldable pub is_paired : ℕ → Bool
is_paired k = eqb k 0 || eqb k 2

unfoldable pub is_marked : ℕ → ℕ → Bool
is_marked k t = pick (eqb k 0) (not (eqb t 0)) (eqb t 0)

unfoldable pub paired_count : List ℕ → ℕ → Bool
paired_count counts i = is_paired (get_or counts i 0)

unfoldable pub marked_count : List ℕ → List ℕ → ℕ → Bool
marked_count counts tax i = is_marked (get_or counts i 0) (taxon tax i)

unfoldable pub wanted_count : ℕ → ℕ
wanted_count t = pick (eqb t 0) 2 0
