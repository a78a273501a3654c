-- Private to the join in any order: how far two nodes are from a common ancestor. Nothing of it is part of a promise.
--   deep par s        == the steps from s up to the root: its depth, with every node counted
--   Gone par s k r    <-> r is the node k steps above s, or the root if there are fewer, and the steps gone
--   Found par s t r   <-> as many steps as r tells, if it does, lead from s up to t
--   Apart par a b r   <-> the two numbers of steps differ by what a is deeper than b, or b than a
-- Assumes nothing.
use Rattle.std.specs.Prelude.{ℕ, ◌+◌, ◌≤◌, ◌≡◌, ◌⊎◌, true, List, Option, IfSome}
use Rattle.trees.specs.Trees.{Below, depth}
use Rattle.meets.specs.declared.Climb.{Climb}
use Rattle.meets.specs.declared.Steps.{Steps}

abbrev pub deep : List ℕ → ℕ → ℕ
deep par s = depth par (λ x. true) s

pub record Gone (par : List ℕ) (s k : ℕ) (r : Climb) : Type 0 where
  pub over : Below par r.node.0 s
  pub gone : deep par r.node.0 + r.steps ≡ deep par s
  pub few : r.steps ≤ k
  pub end : (r.steps ≡ k) ⊎ (deep par r.node.0 ≡ 0)

abbrev pub Found : List ℕ → ℕ → ℕ → Option ℕ → Type 0
Found par s t r = IfSome r (λ k. deep par t + k ≡ deep par s)

abbrev pub Apart : List ℕ → ℕ → ℕ → Steps → Type 0
Apart par a b r = deep par a + r.right ≡ deep par b + r.left
