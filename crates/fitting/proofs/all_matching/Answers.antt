-- `fitting::all_matching`: nothing is noted exactly if labels and taxa of the nodes passed go together. Assumes nothing.
use lib.Dec.{eqb→eq}
use Rattle.passes.proofs.Noting.{noted_none, noted_add}
use borrow.Author.Rules.{rules}
use Rattle.fitting.proofs.all_matching.Goals as goal

pub loop-g-init : goal.loop-g-init
loop-g-init c = (search rules, noted_none _)

pub loop-g-preserved : goal.loop-g-preserved
loop-g-preserved c = let k = c in (search rules, noted_add _ k.loop-g.g k.loop-g.wrong c.mismatched-wrong.result c.mismatched-wrong.ensures.1 k.loop-g.invariant.1)

pub returns : goal.returns
returns c = λ t g h. c.loop-g.invariant.1.0 (eqb→eq _ 0 t) g (search rules)
