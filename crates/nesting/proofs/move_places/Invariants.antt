-- `nesting::move_places`: the entries passed have the positions of their places. Assumes nothing.
use Prim.Native.Nat.{ℕ, ◌<◌}
use mathlib.Core.Path.{◌≡◌}
use lib.ListN.{get_or}
use Rattle.nesting.proofs.move_places.Given as goal

abbrev pub invariant-loop-g : goal.invariant-loop-g
invariant-loop-g l = (j : ℕ) → j < l.g → get_or l.moved j 0 ≡ get_or l.spots (get_or l.places j 0) 0
