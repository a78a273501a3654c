-- Private to the pass over the gene nodes: its sums by a table of depths, and what they need; nothing of it is part of a promise.
--   Deep par out         <-> out has the depth of each node of par
--   steps_of depths gp places c == the steps from the place of c up to its parent's place, by the depths; 0 at the root
--   steps_to_lem depths gp places n == the sum of the steps of the first n gene nodes
--   Step .., Countable .. <-> what the sums need: entries in range, and no step that would count below 0
-- proofs/Tallying.antt shows that these sums are what 01 counts of a legal history. Assumes nothing.
use Rattle.std.specs.Prelude.{ℕ, ◌-◌, ◌≤◌, ◌<◌, ◌≡◌, List, length, get_or, ltb}
use Rattle.trees.specs.Lists.{range, total, pick}
use Rattle.trees.specs.Trees.{depth}
use Rattle.histories.specs.Histories.{every_node}

pub record Deep (par out : List ℕ) : Type 0 where
  pub size : length out ≡ 2047
  pub few : length par ≤ 2047
  pub at : (s : ℕ) → s < length par → get_or out s 0 ≡ depth par every_node s

unfoldable pub steps_of : List ℕ → List ℕ → List ℕ → ℕ → ℕ
steps_of depths gp places c =
    pick (ltb (get_or gp c 0) (length gp)) (get_or depths (get_or places c 0) 0 - get_or depths (get_or places (get_or gp c 0) 0) 0) 0

abbrev pub steps_to_lem : List ℕ → List ℕ → List ℕ → ℕ → ℕ
steps_to_lem depths gp places n = total (steps_of depths gp places) (range 0 n)

-- what one step needs
pub record Step (depths gp places : List ℕ) (c : ℕ) : Type 0 where
  pub inside : c < length gp
  pub room : length gp ≤ length places
  pub low_in : get_or places c 0 < length depths
  pub high_in : get_or gp c 0 < length gp → get_or places (get_or gp c 0) 0 < length depths
  pub falls : get_or gp c 0 < length gp → get_or depths (get_or places (get_or gp c 0) 0) 0 ≤ get_or depths (get_or places c 0) 0

pub record Countable (depths gp places labels : List ℕ) : Type 0 where
  pub few : length gp ≤ 2047
  pub places_room : length gp ≤ length places
  pub labels_room : length gp ≤ length labels
  pub place_in : (c : ℕ) → c < length gp → get_or places c 0 < length depths
  pub falls : (c : ℕ) → c < length gp → get_or gp c 0 < length gp → get_or depths (get_or places (get_or gp c 0) 0) 0 ≤ get_or depths (get_or places c 0) 0
  pub steps_few : steps_to_lem depths gp places (length gp) ≤ 2093058
