-- `orders::order`: the nodes passed have positions. Assumes nothing.
use Prim.Native.Nat.{ℕ, ◌<◌}
use lib.Dec.{T}
use Rattle.trees.specs.Rules.{reaching}
use Rattle.orders.specs.Listing.{Has, Listing}
use Rattle.orders.proofs.order.Given as goal

abbrev pub invariant-loop-i : goal.invariant-loop-i
invariant-loop-i l = Listing l.parents l.c l.spots l.copy × ((x : ℕ) → x < l.i → Has l.spots x) × ((x : ℕ) → x < l.i → T (reaching l.parents x))
