-- Private to the pass over the gene nodes: its sums by climbing, and what they need; nothing of it is part of a promise.
--   steps par low high   == the steps from low up to high, which it is at or below
--   steps_of sp gp places c == the steps from the place of c up to its parent's place; 0 at the root
--   steps_to_lem sp gp places n == the sum of the steps of the first n gene nodes
--   Climb par low high   <-> what a climb needs: a tree, and low at or below high
--   Climbable sp gp places <-> what the pass needs: each place at or below the parent's, and a sum that fits
-- proofs/Counting.antt shows that these sums are what 01 counts of a legal history. None of it asks how nodes are numbered. Assumes
-- nothing.
use Rattle.std.specs.Prelude.{ℕ, ◌-◌, ◌≤◌, ◌<◌, List, length, get_or, ltb}
use Rattle.trees.specs.Lists.{range, total, pick}
use Rattle.trees.specs.Trees.{Below, depth}
use Rattle.trees.specs.Sound.{Treelike}
use Rattle.histories.specs.Histories.{every_node}

abbrev pub steps : List ℕ → ℕ → ℕ → ℕ
steps par low high = depth par every_node low - depth par every_node high

unfoldable pub steps_of : List ℕ → List ℕ → List ℕ → ℕ → ℕ
steps_of sp gp places c = pick (ltb (get_or gp c 0) (length gp)) (steps sp (get_or places c 0) (get_or places (get_or gp c 0) 0)) 0

abbrev pub steps_to_lem : List ℕ → List ℕ → List ℕ → ℕ → ℕ
steps_to_lem sp gp places n = total (steps_of sp gp places) (range 0 n)

pub record Climb (par : List ℕ) (low high : ℕ) : Type 0 where
  pub tree : Treelike par
  pub under : Below par high low

pub record Climbable (sp gp places : List ℕ) : Type 0 where
  pub tree : Treelike sp
  pub few : length gp ≤ 2047
  pub room : length gp ≤ length places
  pub under : (c : ℕ) → c < length gp → get_or gp c 0 < length gp → Below sp (get_or places (get_or gp c 0) 0) (get_or places c 0)
  pub steps_few : steps_to_lem sp gp places (length gp) ≤ 2093058
