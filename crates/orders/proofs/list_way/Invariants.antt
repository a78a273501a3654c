-- `orders::list_way`: the entries passed have positions, each after its parent. Assumes nothing.
use Prim.Native.Nat.{ℕ, ◌<◌}
use lib.ListN.{get_or}
use Rattle.orders.specs.Listing.{Has, Listing}
use Rattle.orders.proofs.list_way.Given as goal

abbrev pub invariant-loop-j : goal.invariant-loop-j
invariant-loop-j l = Listing l.parents l.c l.spots l.copy × ((x : ℕ) → Has l.initial.spots x → Has l.spots x) × (l.j < l.k → Has l.spots (get_or l.way l.j 0))
