-- `text::answer_tables`: what the least history answers is printed. Assumes nothing.
use native.Mathlib.Omega.{arith}
use mathlib.Core.Path.{sym, refl}
use lib.ListN.{length}
use lib.Seq.{length-take-le}
use borrow.Author.Rules.{rules}
use Rattle.trees.specs.Tables.{pair_of}
use Rattle.printing.proofs.Putting.{outcome_of}
use Rattle.text.proofs.Answered.{answered_refused, answered_done}
use Rattle.text.proofs.answer_tables.Goals as goal

pub slice_bounds-write_history-end : goal.slice_bounds-write_history-end
slice_bounds-write_history-end c = sym (length-take-le _ c.least_history.new.places (search rules))

pub slice_bounds-write_history-end-in-Ok : goal.slice_bounds-write_history-end-in-Ok
slice_bounds-write_history-end-in-Ok c = sym (length-take-le _ c.least_history.new.labels (search rules))

pub write_history-requires : goal.write_history-requires
write_history-requires c =
    let q = length c.args.trees.now.genes.parents.now in
    let places = length-take-le q c.least_history.new.places (search rules) in
    let labels = length-take-le q c.least_history.new.labels (search rules) in
    record { even = omega arith; few = omega (arith, c.requires) }

pub returns-in-Err : goal.returns-in-Err
returns-in-Err c = outcome_of _ c.write_refusal.ensures (answered_refused (pair_of c.args.trees.now) c.requires _ _ _ c.in-Err.ensures _ refl)

pub returns-in-Ok : goal.returns-in-Ok
returns-in-Ok c = outcome_of _ c.write_history.ensures (answered_done (pair_of c.args.trees.now) c.requires _ _ _ c.in-Ok.ensures _ refl)
