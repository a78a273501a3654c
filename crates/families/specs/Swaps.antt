-- A release swap: the species tables that an image holds, and those of another rack.
--   Differs sp st sp' st' v <-> v is where the tables sp and st of an image differ from the rack's sp' and st':
--                               "lowest differing node; 65,535 if counts differ"          (01, "species tables aren't the rack's")
-- Assumes nothing.
use Rattle.std.specs.Prelude.{ℕ, ◌<◌, ◌≡◌, ◌≢◌, false, List, length, T}
use Rattle.words.specs.Words.{alike}

pub data Differs (sp st sp' st' : List ℕ) : ℕ → Type 0 where
  counts : length sp ≢ length sp' → Differs sp st sp' st' 65535
  node : (v : ℕ) → length sp ≡ length sp' → v < length sp' → alike sp st sp' st' v ≡ false → ((u : ℕ) → u < v → T (alike sp st sp' st' u)) → Differs sp st sp' st' v
