-- `showing::put_table`: what is left of the table, put after what is held, makes what all of it makes. Assumes nothing.
use native.Mathlib.Omega.{arith}
use mathlib.Core.Path.{sym, ◌∙◌}
use mathlib.Core.List.{map}
use borrow.Author.Tests.{not-true, not-false}
use Rattle.showing.specs.Lines.{entries_from, table_bytes}
use Rattle.showing.proofs.Holding.{put_one_more, entry_turn, entries_end, shown_line, shown_spoiled}
use Rattle.showing.proofs.put_table.Goals as goal

pub returns-then-not-talk : goal.returns-then-not-talk
returns-then-not-talk g c = shown_spoiled c.args.memory.now c.args.talk _ (not-true _ c.if-not-talk.true)

pub loop-i-preserved : goal.loop-i-preserved
loop-i-preserved g c =
    let l = c.loop-i in
    l.invariant ∙ entry_turn g.T.Number.number _ _ c.args.table.now l.i c.index-table-i.result (omega arith) (sym c.index-table-i.is) (rw c.wide.ensures at c.entry-used.ensures)

pub returns : goal.returns
unfolding table_bytes
returns g c =
    let l = c.loop-i in
    let e = rw (← (l.invariant ∙ entries_end g.T.Number.number _ c.args.table.now l.i (omega arith))) at c.put.ensures in
    shown_line c.args.memory.now c.args.talk _ _
    (e ∙ sym (put_one_more _ (entries_from 0 (map g.T.Number.number c.args.table.now)) 10)) c.holding.ensures (not-false _ c.if-not-talk.false)
