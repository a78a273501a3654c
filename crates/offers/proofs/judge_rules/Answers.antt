-- `offers::judge_rules`: each step passes its rule or is its refusal. Assumes nothing.
use Rattle.std.proofs.lemmas.Result.{err_from_is_err_and}
use Rattle.offers.proofs.Descents.{fitting_here, stopped_8, placed_here, nestable_here, stopped_9, descent_rest}
use Rattle.offers.proofs.judge_rules.Goals as goal

pub judge_fitting-fit-requires : goal.judge_fitting-fit-requires
judge_fitting-fit-requires c = fitting_here c.requires.0

pub returns-in_err-fit : goal.returns-in_err-fit
returns-in_err-fit c =
    let p = err_from_is_err_and c.from_residual.result c.from_residual.ensures.1 in
    rw (p.1, p.2) (stopped_8 c.requires.0 _ c.judge_fitting-fit.ensures _ c.in_err-fit.was)

pub judge_leaves-leaves-requires : goal.judge_leaves-leaves-requires
judge_leaves-leaves-requires c = (placed_here c.requires.0 _ c.judge_fitting-fit.ensures c.in_ok-fit.was, c.requires.1)

pub returns-in_err-leaves : goal.returns-in_err-leaves
returns-in_err-leaves c =
    let p = err_from_is_err_and c.from_residual-in_err-leaves.result c.from_residual-in_err-leaves.ensures.1 in
    rw (p.1, p.2) (stopped_9 c.requires.0 _ c.judge_fitting-fit.ensures c.in_ok-fit.was _ c.judge_leaves-leaves.ensures _ c.in_err-leaves.was)

pub judge_nesting-requires : goal.judge_nesting-requires
judge_nesting-requires c = nestable_here c.requires.0 _ c.judge_fitting-fit.ensures c.in_ok-fit.was

pub returns : goal.returns
returns c =
    descent_rest c.requires.0 _ c.judge_fitting-fit.ensures c.in_ok-fit.was _ c.judge_leaves-leaves.ensures c.in_ok-leaves.was c.judge_nesting.result c.judge_nesting.ensures
