-- `orders::first_lost`. Assumes nothing.
use mathlib.Core.Path.{sym}
use Prim.Native.Nat.{ℕ}
use lib.ListN.{length-replicate}
use lib.Seq.{length-take-le}
use Rattle.orders.proofs.Orders.{fresh_orderable}
use borrow.Author.Rules.{rules}
use Rattle.orders.proofs.first_lost.Goals as goal

pub slice_bounds-order-end : goal.slice_bounds-order-end
slice_bounds-order-end c = sym (length-take-le _ _ (search rules))

pub slice_bounds-order-end-2 : goal.slice_bounds-order-end-2
slice_bounds-order-end-2 c = sym (length-take-le _ _ (search rules))

pub slice_bounds-order-end-3 : goal.slice_bounds-order-end-3
slice_bounds-order-end-3 c = sym (length-take-le _ _ (search rules))

pub order-requires : goal.order-requires
order-requires c = let p = c.requires in fresh_orderable p.0 p.1 _ _ (length-replicate {A = ℕ} 2047 0) (length-replicate {A = ℕ} 2047 0)

pub returns : goal.returns
returns c = c.order.ensures.answer
