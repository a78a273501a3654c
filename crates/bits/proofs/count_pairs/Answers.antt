-- `bits::count_pairs`: after i nodes the table has the children among them. Assumes nothing.
use native.Mathlib.Omega.{arith}
use Rattle.trees.proofs.Bools.{true_T}
use Rattle.marks.proofs.Digits.{added}
use Rattle.bits.proofs.Childing.{childed_start, childed_turn, childed_skip}
use borrow.Author.Rules.{rules}
use Rattle.bits.proofs.count_pairs.Goals as goal
use Rattle.bits.proofs.count_pairs.Goals.{else-u-n-via-then-u-n+else-not-add_one, else-u-n-via-else-u-n}

pub loop-parent-init : goal.loop-parent-init
loop-parent-init c = childed_start c.requires.0 _ c.requires.1

pub loop-parent-preserved : goal.loop-parent-preserved
loop-parent-preserved c =
    let few = c.requires.0 in
    let C = c.loop-parent.invariant in
    elim c.else-u-n.branch [
      | else-u-n-via-then-u-n+else-not-add_one w ↦
          rw w.counts-is (childed_turn few _ _ _ (search rules) (search rules) (search rules) (added _ _ _ _ C.size (omega (arith, few)) w.add_one.ensures (true_T w.if-not-add_one.false)) C)
      | else-u-n-via-else-u-n w ↦ rw w.counts-is (childed_skip few _ _ (search rules) (search rules) C)
    ]
