-- `orders::spot_over`. Assumes nothing.
use native.Mathlib.Omega.{arith}
use mathlib.Core.Path.{sym, ap, ◌∙◌}
use lib.ListN.{get_or}
use Rattle.trees.proofs.Lines.{up_at}
use Rattle.orders.proofs.Lists.{over_in, over_out}
use Rattle.orders.proofs.spot_over.Goals as goal

pub overflow_cast-u : goal.overflow_cast-u
overflow_cast-u c = omega (arith, c.type_inv.parents c.args.node)

pub returns-then-u-parents : goal.returns-then-u-parents
returns-then-u-parents c = let s = c in let e = up_at s.args.parents.now _ s.requires.0 in sym (over_in _ _ _ (omega (arith, e, c.if-u-parents.true)) ∙ ap (λ u. get_or s.args.spots.now u 0) e)

pub returns-else-u-parents : goal.returns-else-u-parents
returns-else-u-parents c = let s = c in sym (over_out _ _ _ (omega (arith, up_at s.args.parents.now _ s.requires.0, c.if-u-parents.false)))
