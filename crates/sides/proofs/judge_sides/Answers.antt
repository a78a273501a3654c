-- `sides::judge_sides`: rule 10, then rule 11 by what is known of each node's children. Assumes nothing.
use mathlib.Core.Path.{◌∙◌}
use Rattle.sides.proofs.Both.{stopped_10, passed_10}
use Rattle.trees.proofs.Answers.{refused_on}
use Rattle.sides.proofs.judge_sides.Goals as goal

pub returns-in_err-judge_nested : goal.returns-in_err-judge_nested
returns-in_err-judge_nested c = refused_on _ c.from_residual.ensures.1 (stopped_10 c.requires _ c.in_err-judge_nested.ensures.judged)

pub returns : goal.returns
returns c = c.judge_parted.ensures ∙ passed_10 c.requires _ _ c.judge_nested.ensures c.in_ok-judge_nested.was
