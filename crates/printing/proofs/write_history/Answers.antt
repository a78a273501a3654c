-- `printing::write_history`: measured, then put. Assumes nothing.
use native.Mathlib.Omega.{arith}
use lib.ListN.{length-append}
use Rattle.least.specs.Answers.{counts_of}
use Rattle.printing.specs.Printing.{counts_line}
use Rattle.printing.specs.Putting.{told_lines}
use Rattle.printing.proofs.Putting.{put_room, put_then, outcome_short, outcome_put}
use Rattle.printing.proofs.write_history.Goals as goal

pub returns-then-out-size : goal.returns-then-out-size
returns-then-out-size c =
    let whole = length-append (told_lines c.args.places.now c.args.labels.now) (counts_line (counts_of c.args.counts)) in
    outcome_short _ _ (omega (arith, c.lines_size.ensures.exact c.args.labels.now, c.counts_size.ensures.exact, whole, c.if-out-size.true))

pub put_lines-at-requires : goal.put_lines-at-requires
put_lines-at-requires c = record { even = c.requires.even; room = omega (arith, c.lines_size.ensures.exact c.args.labels.now, c.if-out-size.false) }

pub put_counts-requires : goal.put_counts-requires
put_counts-requires c =
    let line = counts_line (counts_of c.args.counts) in
    let whole = length-append (told_lines c.args.places.now c.args.labels.now) line in
    put_room c.put_lines-at.ensures line (omega (arith, c.lines_size.ensures.exact c.args.labels.now, c.counts_size.ensures.exact, whole, c.if-out-size.false))

pub returns : goal.returns
returns c =
    let whole = length-append (told_lines c.args.places.now c.args.labels.now) (counts_line (counts_of c.args.counts)) in
    outcome_put _ _ _ _
    (omega (arith, c.lines_size.ensures.exact c.args.labels.now, c.counts_size.ensures.exact, whole, c.if-out-size.false))
    (put_then c.put_lines-at.ensures c.put_counts.ensures)
