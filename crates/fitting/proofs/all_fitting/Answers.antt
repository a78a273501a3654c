-- `fitting::all_fitting`: the three passes find nothing wrong. Assumes nothing.
use mathlib.Core.Path.{sym, ◌∙◌}
use mathlib.Core.Bool.{false}
use Rattle.trees.proofs.Bools.{true_T}
use Rattle.fitting.proofs.Fits.{fitting_matching}
use Rattle.fitting.proofs.all_fitting.Goals as goal
use Rattle.fitting.proofs.all_fitting.Goals.{then-all_below, else-all_below}

pub returns-then-all_below-2 : goal.returns-then-all_below-2
returns-then-all_below-2 c =
    elim c.if-all_below.branch [
      | then-all_below w ↦ λ t g h.
          fitting_matching _ _ _ _ g ((c.all_below.ensures.0 (true_T w.if-all_below.true)).below g h) ((w.all_below-then-all_below.ensures.0 (true_T (sym w.value-is ∙ c.if-all_below-2.true))).below g h) (c.all_matching.ensures t g h)
      | else-all_below w ↦ absurd (true_T {b = false} (sym w.if-all_below.false ∙ sym w.value-is ∙ c.if-all_below-2.true))
    ]
