-- `bits::judge_children`: the quick pass says that rules 3 and 4 hold, or each scan passes its rule or is its refusal. Assumes nothing.
use mathlib.Core.Path.{sym, ◌∙◌}
use Rattle.trees.proofs.Bools.{true_T}
use Rattle.trees.proofs.Soundness.{sized_is}
use Rattle.shapes.proofs.Shapes.{shape_wanted, refused_3, past_3}
use Rattle.trees.proofs.Answers.{refused_on}
use Rattle.bits.proofs.judge_children.Goals as goal

pub returns-then-surely_shaped : goal.returns-then-surely_shaped
returns-then-surely_shaped c = sym (shape_wanted _ _ _ (c.surely_shaped.ensures (true_T c.if-surely_shaped.true)).wanted)

pub returns-in_err-judge_paired : goal.returns-in_err-judge_paired
returns-in_err-judge_paired c = refused_on _ c.from_residual.ensures.1 (sym (refused_3 _ _ _ _ _ _ (sym c.in_err-judge_paired.ensures)))

pub judge_marked-requires : goal.judge_marked-requires
judge_marked-requires c = (sized_is _ _ c.requires).even

pub returns : goal.returns
returns c = c.judge_marked.ensures ∙ sym (past_3 _ _ _ (sym c.in_ok-judge_paired.ensures))
