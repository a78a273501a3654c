-- `meets::Parents::shared`: the steps from both lead to the same node. Assumes nothing.
use native.Mathlib.Omega.{arith}
use Rattle.meets.proofs.Joins.{gone_deep}
use borrow.Author.Rules.{rules}
use Rattle.meets.proofs.Parents.shared.Goals as goal

pub returns-clause-apart : goal.returns-clause-apart
returns-clause-apart c = let s = c in let S = rw s.self.view_is at s.self.invariant.1 in omega (arith, gone_deep S _ _ _ s.requires.0 (search rules) c.go_up-x.ensures, gone_deep S _ _ _ s.requires.1 (search rules) c.go_up-y.ensures)
