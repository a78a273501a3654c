-- `fills::settling::ask_all`: entries that are no gene node's stay. Assumes nothing.
use native.Mathlib.Omega.{arith}
use Rattle.fills.proofs.Turns.{kept_self, kept_join}
use borrow.Author.Rules.{rules}
use Rattle.fills.proofs.settling.ask_all.Goals as goal

pub loop-g-init : goal.loop-g-init
loop-g-init c = kept_self _ _

pub ask_for-requires : goal.ask_for-requires
ask_for-requires c =
    let k = c.loop-g.invariant in
    (search rules, record { few = c.requires.few; room = omega (arith, k.size, c.requires.room) })

pub loop-g-preserved : goal.loop-g-preserved
loop-g-preserved c = kept_join c.loop-g.invariant c.ask_for.ensures

pub returns : goal.returns
returns c = c.loop-g.invariant
