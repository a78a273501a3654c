-- `judge_blocks` meets its contract: each return is one of the rules' answers. Assumes nothing.
use Rattle.std.proofs.Common.{sym, ap, ◌∙◌, arith}
use Rattle.std.proofs.lemmas.Result.{err_from_is_err_and}
use Rattle.trees.specs.Rulings.{refused_by}
use Rattle.blocks.proofs.Judging.{refused_empty, refused_odd, stopped_14, stopped_15, none_refused}
use Rattle.blocks.proofs.judge.judge_blocks.Goals as goal

pub returns-then-m-eq0 : goal.returns-then-m-eq0
returns-then-m-eq0 c = ap refused_by c.refuse.ensures ∙ sym (refused_empty _ _ _ c.if-m-eq0.true)

pub returns-then-m-ne0 : goal.returns-then-m-ne0
returns-then-m-ne0 c = ap refused_by c.refuse-then-m-ne0.ensures ∙ sym (refused_odd _ _ _ c.if-m-ne0.true)

pub returns-in_err-judge_checks : goal.returns-in_err-judge_checks
returns-in_err-judge_checks c =
    let p = err_from_is_err_and c.from_residual.result c.from_residual.ensures.1 in
    rw (p.1, p.2) (stopped_14 _ _ _ c.if-m-eq0.false c.if-m-ne0.false (omega arith) _ c.in_err-judge_checks.ensures)

pub returns-in_err-judge_numbers : goal.returns-in_err-judge_numbers
returns-in_err-judge_numbers c =
    let p = err_from_is_err_and c.from_residual-in_err-judge_numbers.result c.from_residual-in_err-judge_numbers.ensures.1 in
    rw (p.1, p.2) (stopped_15 _ _ _ c.if-m-eq0.false c.if-m-ne0.false (omega arith) c.in_ok-judge_checks.ensures _ c.in_err-judge_numbers.ensures)

pub returns : goal.returns
returns c = none_refused _ _ _ c.if-m-eq0.false c.if-m-ne0.false (omega arith) c.in_ok-judge_checks.ensures c.in_ok-judge_numbers.ensures
