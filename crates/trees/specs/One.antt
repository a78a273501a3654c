-- One answer only.
--   Single P <-> any two results that meet P are equal                 (01, "that any two results meeting it coincide is proved")
-- A result is what a call answers together with the final content of every table lent to it. Assumes nothing.
use Rattle.std.specs.Prelude.{◌≡◌}

abbrev pub Single : {R : Type 0} → (R → Type 0) → Type 0
Single {R} P = (a b : R) → P a → P b → a ≡ b
