-- `rounds::round_apart`: the nodes passed are told apart. Assumes nothing.
use Rattle.trees.proofs.Bools.{true_T}
use Rattle.rounds.proofs.Repeats.{from_none, from_more}
use borrow.Author.Rules.{rules}
use Rattle.rounds.proofs.round_apart.Goals as goal

pub loop-j-init : goal.loop-j-init
loop-j-init c = from_none _ _

pub loop-j-preserved : goal.loop-j-preserved
loop-j-preserved c = from_more _ _ _ c.loop-j.invariant (c.apart_at.ensures (true_T c.if-not-apart_at.false))

pub returns-then-not-apart_at : goal.returns-then-not-apart_at
returns-then-not-apart_at c = λ t. absurd t

pub returns : goal.returns
returns c = λ t j a h. c.loop-j.invariant j a (search rules)
