-- `bits::judge_shape`: rules 2 and 38, and then 3 and 4. Assumes nothing.
use mathlib.Core.Path.{sym, ◌∙◌}
use Rattle.trees.proofs.Soundness.{sized_is}
use Rattle.shapes.proofs.Shapes.{shape_refused, shape_left}
use Rattle.trees.proofs.Answers.{refused_on}
use Rattle.bits.proofs.judge_shape.Goals as goal

pub judge_roots-requires : goal.judge_roots-requires
judge_roots-requires c = let z = sized_is _ _ c.requires in (z.some, z.few)

pub returns-in_err-judge_roots : goal.returns-in_err-judge_roots
returns-in_err-judge_roots c = refused_on _ c.from_residual.ensures.1 (sym (shape_refused _ _ _ _ _ _ (sym c.in_err-judge_roots.ensures)))

pub returns : goal.returns
returns c = c.judge_children.ensures ∙ sym (shape_left _ _ _ (sym c.in_ok-judge_roots.ensures))
