-- `fills::finish`: the place is where the two meet. Assumes nothing.
use native.Mathlib.Omega.{arith}
use mathlib.Core.Path.{refl, ap}
use lib.ListN.{set}
use Rattle.trees.proofs.Lines.{top_node}
use Rattle.fills.proofs.finish.Goals as goal

pub overflow_cast-places : goal.overflow_cast-places
overflow_cast-places c = omega (arith, top_node c.join-m.ensures.left, c.requires.0.few)

pub returns : goal.returns
returns c =
    record { at = c.join-m.result.0; meets = c.join-m.ensures; places = refl; labels = ap (λ x. set c.args.labels.now c.args.above.0 x) c.kind_of.ensures }
