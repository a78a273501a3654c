-- `showing::put_line`: the word, then the rest. Assumes nothing.
use native.Mathlib.Omega.{arith}
use borrow.Author.Tests.{not-true, not-false}
use Rattle.showing.proofs.Holding.{whole_line, shown_line, shown_spoiled}
use Rattle.showing.proofs.put_line.Goals as goal

pub returns-then-not-talk : goal.returns-then-not-talk
returns-then-not-talk c = shown_spoiled c.args.memory.now c.args.talk _ (not-true _ c.if-not-talk.true)

pub returns : goal.returns
returns c =
    let rest = rw c.min.ensures at c.rest-used.ensures in
    let line = whole_line _ _ _ c.args.shown (omega arith) c.head-held.ensures rest in
    shown_line c.args.memory.now c.args.talk _ _ line c.holding.ensures (not-false _ c.if-not-talk.false)
