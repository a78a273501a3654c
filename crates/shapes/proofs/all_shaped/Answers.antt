-- `shapes::all_shaped`: where none is counted as wrong, the nodes passed have as many children as their taxa want. Assumes nothing.
use native.Mathlib.Omega.{arith}
use lib.Dec.{eqb→eq}
use Rattle.passes.proofs.Noting.{noted_none, noted_add}
use Rattle.shapes.proofs.Tests.{unlike}
use borrow.Author.Rules.{rules}
use Rattle.shapes.proofs.all_shaped.Goals as goal

pub loop-i-init : goal.loop-i-init
loop-i-init c = (search rules, noted_none _)

pub loop-i-preserved : goal.loop-i-preserved
loop-i-preserved c =
    let u = unlike _ _ _ (rw c.wanted.ensures at c.from-wrong.ensures) in
    (omega (arith, c.loop-i.invariant.0, u.0), noted_add _ c.loop-i.i c.loop-i.wrong _ u.1 c.loop-i.invariant.1)

pub returns : goal.returns
returns c = λ t k h. c.loop-i.invariant.1.0 (eqb→eq _ 0 t) k (search rules)
