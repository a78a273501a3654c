-- `reaches::mark_way`: the nodes marked so far reach the root, and so does the next. Assumes nothing.
use mathlib.Core.Path.{sym, ◌∙◌}
use Rattle.roots.proofs.Ways.{reaching_up}
use Rattle.reaches.proofs.Marking.{knowing_more}
use borrow.Author.Rules.{rules}
use Rattle.reaches.proofs.mark_way.Goals as goal

pub returns-then-n-u : goal.returns-then-n-u
returns-then-n-u c =
    let i = c.loop.invariant in
    knowing_more _ _ c.requires.1 (search rules) (search rules) i.2 (sym c.two_at.ensures ∙ c.if-two_at-ne0.false) c.add_one.ensures i.3

pub loop-preserved : goal.loop-preserved
loop-preserved c =
    let i = c.loop.invariant in (
      search rules,
      search rules,
      reaching_up c.requires.1 _ (search rules) (search rules) i.2,
      knowing_more _ _ c.requires.1 (search rules) (search rules) i.2 (sym c.two_at.ensures ∙ c.if-two_at-ne0.false) c.add_one.ensures i.3,
    )
