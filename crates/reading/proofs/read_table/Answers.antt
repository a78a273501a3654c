-- `reading::read_table`: the words passed tell the entries written. Assumes nothing.
use native.Mathlib.Omega.{arith}
use lib.ListN.{length-set}
use Rattle.numbers.proofs.Cursor.{number_got}
use Rattle.reading.proofs.Filling.{taken_none, fill_more, fill_none, fill_wide, numbers_more}
use Rattle.reading.proofs.read_table.Goals as goal

pub loop-entry-init : goal.loop-entry-init
loop-entry-init g c = taken_none _ _ c.requires

pub returns-in_err-number : goal.returns-in_err-number
returns-in_err-number g c =
    let narrow = g.met.T.Entry.narrow in
    rw (c.from_residual.ensures, length-set) (fill_none _ _ _ _ _ _ c.loop-entry.invariant _ (omega arith) narrow c.in_err-number.ensures)

pub returns-in_err-entry : goal.returns-in_err-entry
returns-in_err-entry g c =
    let got = number_got _ _ _ _ c.loop-entry.invariant.inside c.in_ok-number.ensures in
    rw (c.from_residual-in_err-entry.ensures, length-set) (fill_wide _ _ _ _ _ _ c.loop-entry.invariant _ (omega arith) _ _ got c.in_err-entry.ensures)

pub loop-entry-preserved : goal.loop-entry-preserved
loop-entry-preserved g c =
    let got = number_got _ _ _ _ c.loop-entry.invariant.inside c.in_ok-number.ensures in
    let told = c.in_ok-entry.ensures in
    rw (numbers_more g.T.Entry.number c.loop-entry.table c.loop-entry.entry-index c.in_ok-entry.field-0 (omega arith), told.0)
    (fill_more _ _ _ _ _ _ c.loop-entry.invariant _ _ got told.1)
