-- What the functions of this crate promise.
--   BeginMeets r             <-> nothing read and nothing to be written
--   SpoilMeets talk r        <-> the same talk, spoiled
--   HoldingMeets talk used r <-> the same talk, with that many bytes to be written
-- Assumes nothing.
use Rattle.std.specs.Prelude.{ℕ, ◌≡◌, true, false}
use Rattle.talks.specs.declared.Talk.{Talk}

abbrev pub BeginMeets : Talk → Type 0
BeginMeets r = r ≡ record { at = 0; end = 0; used = 0; more = true }

abbrev pub SpoilMeets : Talk → Talk → Type 0
SpoilMeets talk r = r ≡ record { at = talk.at; end = talk.end; used = talk.used; more = false }

abbrev pub HoldingMeets : Talk → ℕ → Talk → Type 0
HoldingMeets talk used r = r ≡ record { at = talk.at; end = talk.end; used = used; more = talk.more }
