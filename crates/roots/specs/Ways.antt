-- Private to the searches for rule 38: which nodes reach the root. Nothing of it is part of a promise.
--   Reaching par x     <-> x lies at or below a node without a parent
--   Entries par        <-> what rule 2 leaves: an entry that is no node is 65,535, and there is one of them at most
-- Assumes nothing.
use Rattle.std.specs.Prelude.{ℕ, ◌≤◌, ◌<◌, ◌≡◌, List, length}
use Rattle.trees.specs.Trees.{none, up, Below}

pub record Reaching (par : List ℕ) (x : ℕ) : Type 0 where
  pub root : ℕ
  pub top : up par root ≡ none
  pub below : Below par root x

pub record Entries (par : List ℕ) : Type 0 where
  pub few : length par ≤ 2047
  pub entry : (x : ℕ) → x < length par → length par ≤ up par x → up par x ≡ none
  pub single : (x y : ℕ) → x < length par → y < length par → length par ≤ up par x → length par ≤ up par y → x ≡ y
