-- One answer only: any two results that meet a contract of this crate are equal. Assumes nothing.
use Prim.Native.Nat.{ℕ}
use mathlib.Core.List.{List}
use Rattle.trees.specs.One.{Single}
use Rattle.trees.specs.Sound.{Treelike}
use Rattle.trees.proofs.Meets.{meet_one}
use Rattle.trees.proofs.Sound.{rooted}
use Rattle.trees.proofs.Spots.{node_one}
use Rattle.meets.specs.Promises.{JoinMeets}

pub join_one : (sp : List ℕ) → Treelike sp → (a b : ℕ) → Single (JoinMeets sp a b)
join_one sp T a b r s p q = node_one r s (meet_one (rooted T.1).ground p q)
