-- `nesting::side_code`. Assumes nothing.
use Rattle.nesting.proofs.Codes.{code_here, code_before, code_after}
use borrow.Author.Rules.{rules}
use Rattle.nesting.proofs.side_code.Goals as goal

pub returns-then-d-eq0 : goal.returns-then-d-eq0
returns-then-d-eq0 c = (code_here _ _ c.if-d-eq0.true, search rules)

pub returns-then-d-turn : goal.returns-then-d-turn
returns-then-d-turn c = (code_before _ _ c.if-d-eq0.false c.if-d-turn.true, search rules)

pub returns-else-d-turn : goal.returns-else-d-turn
returns-else-d-turn c = (code_after _ _ c.if-d-eq0.false c.if-d-turn.false, search rules)
