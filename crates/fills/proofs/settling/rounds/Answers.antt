-- `fills::settling::rounds`: entries that are no gene node's stay. Assumes nothing.
use native.Mathlib.Omega.{arith}
use Rattle.fills.proofs.Turns.{kept_self, kept_join}
use borrow.Author.Rules.{rules}
use Rattle.fills.proofs.settling.rounds.Goals as goal

pub loop-from-init : goal.loop-from-init
loop-from-init c = (search rules, kept_self _ _)

pub round-from-requires : goal.round-from-requires
round-from-requires c =
    (search rules, record { some = c.requires.some; few = c.requires.few; room = omega (arith, c.requires.room, c.loop-from.invariant.1.size) })

pub loop-from-smaller : goal.loop-from-smaller
loop-from-smaller c = omega (arith, c.round-from.ensures.0.0, c.round-from.ensures.0.1)

pub loop-from-preserved : goal.loop-from-preserved
loop-from-preserved c = (c.round-from.ensures.0.1, kept_join c.loop-from.invariant.1 c.round-from.ensures.1)

pub returns : goal.returns
returns c = c.loop-from.invariant.1
