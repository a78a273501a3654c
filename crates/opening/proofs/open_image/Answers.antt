-- `open_image` meets its contract: the rules in their order. Assumes nothing.
use mathlib.Core.Path.{sym, ◌∙◌}
use Rattle.std.proofs.lemmas.Result.{err_from_is_err_and}
use Rattle.opening.proofs.Opening.{fitted, open_rack, open_blocks, open_content}
use Rattle.opening.proofs.open_image.Goals as goal

pub returns-in_err-judge_rack : goal.returns-in_err-judge_rack
returns-in_err-judge_rack c =
    let p = err_from_is_err_and c.from_residual.result c.from_residual.ensures.1 in
    rw (p.1, p.2) (sym (open_rack _ _ _ _ _ _ _ (sym c.in_err-judge_rack.ensures)))

pub returns-in_err-judge_blocks : goal.returns-in_err-judge_blocks
returns-in_err-judge_blocks c =
    let p = err_from_is_err_and c.from_residual-in_err-judge_blocks.result c.from_residual-in_err-judge_blocks.ensures.1 in
    rw (p.1, p.2) (sym (open_blocks _ _ _ _ (sym c.in_ok-judge_rack.ensures) _ _ _ _ (sym c.in_err-judge_blocks.ensures)))

pub judge_content-requires : goal.judge_content-requires
judge_content-requires c = fitted _ _ _ _ _ (sym c.in_ok-judge_rack.ensures) (sym c.in_ok-judge_blocks.ensures)

pub returns : goal.returns
returns c = c.judge_content.ensures ∙ sym (open_content _ _ _ _ (sym c.in_ok-judge_rack.ensures) _ _ (sym c.in_ok-judge_blocks.ensures))
