-- Private to the quick test of rule 8: what its passes show; nothing of it is part of a promise.
--   Matching kind tax <-> a label and a taxon that go together: a leaf's, or an inner node's
-- Assumes nothing.
use Rattle.std.specs.Prelude.{ℕ, ◌≡◌, ◌≢◌}

-- a label 0 with a taxon, or another label with none
abbrev pub Matching : ℕ → ℕ → Type 0
Matching kind tax = (kind ≡ 0 → tax ≢ 0) × (kind ≢ 0 → tax ≡ 0)
