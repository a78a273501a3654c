-- `roots::in_order`: nothing is noted exactly if the nodes passed come after their parents. Assumes nothing.
use mathlib.Core.Path.{refl}
use lib.ListN.{get_or}
use lib.Dec.{ltb, eqb→eq}
use borrow.Author.Count.{below_none, below_more}
use Rattle.passes.proofs.Noting.{noted_more}
use Rattle.roots.proofs.Parents.{FirstAt, first_root, first_test, first_all, not_first}
use borrow.Author.Rules.{rules}
use Rattle.roots.proofs.in_order.Goals as goal

pub returns-then-parents : goal.returns-then-parents
returns-then-parents c = ((λ t. absurd t), (λ F. absurd (not_first _ (search rules) c.if-parents.true F)))

pub loop-i-init : goal.loop-i-init
loop-i-init c = ((λ e. below_more (FirstAt c.args.parents.now) 0 (below_none _) (first_root _ (search rules) c.if-parents.false)), (λ f. refl))

pub loop-i-preserved : goal.loop-i-preserved
loop-i-preserved c =
    let p = c.args.parents.now in
    let i = c.loop-i.i in
    rw c.noted-wrong.ensures (noted_more (FirstAt p) i c.loop-i.wrong (ltb (get_or p i 0) i) (first_test p i (search rules) (search rules)) c.loop-i.invariant)

pub returns : goal.returns
returns c =
    let w = c.loop-i.invariant in
    let A = first_all c.args.parents.now (search rules) in
    ((λ t. A.0 (λ i h. w.0 (eqb→eq _ 0 t) i (search rules))), (λ F. rw (w.1 (λ i h. A.1 F i (search rules))) tt))
