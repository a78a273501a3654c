-- Private to the functions of this crate: which nodes are known to reach the root. Nothing of it is part of a promise.
--   Knowing par marks  <-> every marked node reaches the root
-- Assumes nothing.
use Rattle.std.specs.Prelude.{ℕ, ◌<◌, ◌≡◌, ◌≢◌, List, length}
use Rattle.roots.specs.Ways.{Reaching}
use Rattle.marks.specs.Bits.{two_at_lem}

pub record Knowing (par marks : List ℕ) : Type 0 where
  pub size : length marks ≡ 512
  pub known : (x : ℕ) → x < length par → two_at_lem marks x ≢ 0 → Reaching par x
