-- `rounds::all_apart`: no taxon of a leaf in the rounds passed stands at a later node too. Assumes nothing.
use Rattle.trees.proofs.Bools.{true_T}
use Rattle.rounds.proofs.Repeats.{unlike_none, unlike_round, unlike_fresh}
use borrow.Author.Rules.{rules}
use Rattle.rounds.proofs.all_apart.Goals as goal

pub loop-from-init : goal.loop-from-init
loop-from-init c = (search rules, search rules, unlike_none _)

pub loop-from-preserved : goal.loop-from-preserved
loop-from-preserved c = (search rules, search rules, unlike_round _ _ _ _ (search rules) (c.round_apart.ensures (true_T c.if-not-round_apart.false)) c.loop-from.invariant.2)

pub returns-then-not-round_apart : goal.returns-then-not-round_apart
returns-then-not-round_apart c = λ t. absurd t

pub returns : goal.returns
returns c = λ t. unlike_fresh _ _ (search rules) c.loop-from.invariant.2
