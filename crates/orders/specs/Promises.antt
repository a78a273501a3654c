-- What the functions of this crate promise.
--   Orderable par spots copy way <-> what ordering needs: rule 2, tables of n entries, and no node with a position yet
--   Ordered par spots copy   <-> copy is the tree of par, x numbered by its entry of spots, and has parents first
--   Lost par r               <-> r is the lowest node that never reaches the root; none if all do
--   OrderMeets par spots copy r <-> r is the lowest node that never reaches the root; if there is none, the nodes are ordered
-- Assumes nothing.
use Rattle.std.specs.Prelude.{ℕ, ◌≤◌, ◌<◌, ◌≡◌, List, Option, Some, None, IfNone, length, get_or}
use Rattle.trees.specs.Lists.{lowest}
use Rattle.trees.specs.Trees.{none}
use Rattle.trees.specs.First.{ParentsFirst}
use Rattle.trees.specs.Renumber.{Renumbered}
use Rattle.trees.specs.Rules.{reaching}
use Rattle.roots.specs.Ways.{Entries}

pub record Orderable (par spots copy way : List ℕ) : Type 0 where
  pub some : 1 ≤ length par
  pub entries : Entries par
  pub spots_size : length spots ≡ length par
  pub copy_size : length copy ≡ length par
  pub way_size : length way ≡ length par
  pub blank : (x : ℕ) → x < length par → get_or spots x 0 ≡ none

pub record Ordered (par spots copy : List ℕ) : Type 0 where
  pub back : ℕ → ℕ
  pub same : Renumbered par copy (λ x. get_or spots x 0) back
  pub first : ParentsFirst copy

abbrev pub Lost : List ℕ → Option ℕ → Type 0
Lost par (Some x) = (x < length par) × (x ≡ lowest (reaching par) (length par))
Lost par None = length par ≡ lowest (reaching par) (length par)

pub record OrderMeets (par spots copy : List ℕ) (r : Option ℕ) : Type 0 where
  pub answer : Lost par r
  pub ordered : IfNone r (Ordered par spots copy)
