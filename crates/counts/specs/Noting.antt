-- Private to the pass that notes depths in any order: what is known so far; nothing of it is part of a promise.
--   Noting par out       <-> every depth that is known is right; 65,535 stands where it is not known yet
--   Noted par s old new  <-> now the depth of s is known, and so is what was
-- Assumes nothing.
use Rattle.std.specs.Prelude.{ℕ, ◌<◌, ◌≡◌, ◌≢◌, List, length, get_or}
use Rattle.trees.specs.Trees.{depth}
use Rattle.trees.specs.Sound.{Treelike}
use Rattle.histories.specs.Histories.{every_node}

pub record Noting (par out : List ℕ) : Type 0 where
  pub tree : Treelike par
  pub size : length out ≡ 2047
  pub right : (s : ℕ) → s < length par → get_or out s 0 ≢ 65535 → get_or out s 0 ≡ depth par every_node s

pub record Noted (par : List ℕ) (s : ℕ) (old new : List ℕ) : Type 0 where
  pub noting : Noting par new
  pub now_known : get_or new s 0 ≢ 65535
  pub still : (x : ℕ) → get_or old x 0 ≢ 65535 → get_or new x 0 ≢ 65535
