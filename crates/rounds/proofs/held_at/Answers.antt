-- `rounds::held_at`. Assumes nothing.
use borrow.Author.Rules.{rules}
use Rattle.rounds.proofs.Held.{counts_none, counts_one}
use Rattle.rounds.proofs.held_at.Goals as goal

pub returns-then-sought-eq0 : goal.returns-then-sought-eq0
returns-then-sought-eq0 c = counts_none _ _ _ _ _ c.requires.0

pub returns-in_default : goal.returns-in_default
returns-in_default c = counts_none _ _ _ _ _ c.requires.0

pub returns : goal.returns
returns c =
    counts_one _ _ c.requires.2 _ _ _ _ c.ask-found.result _ c.requires.0 c.if-sought-eq0.false c.ask-found.ensures c.in-Some.is (search rules)
