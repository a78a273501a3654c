-- `judging::judge_image`: the image opens and is judged, or is refused. Where it opens, the lemma that the function names does. Assumes nothing.
use native.Mathlib.Omega.{arith}
use mathlib.Core.Path.{sym}
use Rattle.std.proofs.lemmas.Result.{err_from_is_err_and}
use Rattle.judging.proofs.Judging.{image_closed}
use Rattle.opening.proofs.Opening.{opens_here, opens_few}
use Rattle.judging.proofs.judge_image.Goals as goal

pub judge_in-requires : goal.judge_in-requires
judge_in-requires c = (opens_here _ _ _ _ (sym c.in_ok-q.ensures), omega arith, omega arith)

pub judge_in-requires-2 : goal.judge_in-requires-2
judge_in-requires-2 c = let o = opens_here _ _ _ _ (sym c.in_ok-q.ensures) in (o, opens_few o, omega arith)

pub returns-in_err-q : goal.returns-in_err-q
returns-in_err-q c =
    let p = err_from_is_err_and c.from_residual.result c.from_residual.ensures.1 in
    rw (p.1, p.2) (image_closed _ _ _ _ _ _ _ (sym c.in_err-q.ensures))
