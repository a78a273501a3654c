-- `load_image` meets its contract: the image opens and is loaded, or is refused. Assumes nothing.
use mathlib.Core.Path.{sym}
use Rattle.std.proofs.lemmas.Result.{err_from_is_err_and}
use Rattle.loading.proofs.Loads.{load_closed}
use Rattle.opening.proofs.Opening.{opens_here}
use Rattle.loading.proofs.load_image.Goals as goal

pub load_opened-requires : goal.load_opened-requires
load_opened-requires c = opens_here _ _ _ _ (sym c.in_ok-q.ensures)

pub returns-in_err-q : goal.returns-in_err-q
returns-in_err-q c =
    let p = err_from_is_err_and c.from_residual.result c.from_residual.ensures.1 in
    rw (p.1, p.2) (load_closed _ _ _ _ _ _ _ _ (sym c.in_err-q.ensures))
