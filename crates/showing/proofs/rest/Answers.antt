-- `showing::rest`: what is left of the numbers, put after those that are held, makes what all of them make. Assumes nothing.
use native.Mathlib.Omega.{arith}
use mathlib.Core.Path.{sym, ◌∙◌}
use lib.ListN.{length}
use Rattle.showing.specs.Lines.{spaced_from}
use Rattle.showing.proofs.Holding.{put_one_more, spaced_turn, spaced_end}
use Rattle.showing.proofs.rest.Goals as goal

pub loop-n-preserved : goal.loop-n-preserved
loop-n-preserved c = let l = c.loop-n in l.invariant ∙ spaced_turn _ _ _ l.n-index _ (omega arith) c.next-held.ensures

pub returns : goal.returns
returns c =
    let l = c.loop-n in
    let ns = c.args.numbers.now in
    let e = rw (← (l.invariant ∙ spaced_end _ _ l.n-index _ (omega arith))) at c.put.ensures in
    e ∙ sym (put_one_more _ (spaced_from ns 0 (length ns)) 10)
