-- `fills::settling::settle`: the leaves passed are at home. Assumes nothing.
use native.Mathlib.Omega.{arith}
use mathlib.Core.Path.{refl, ◌∙◌}
use Rattle.fills.proofs.Turns.{kept_self}
use Rattle.fills.proofs.Seats.{settled_start, settled_turn, settled_end}
use borrow.Author.Rules.{rules}
use Rattle.fills.proofs.settling.settle.Goals as goal

pub rounds-requires : goal.rounds-requires
rounds-requires c = c.requires.roomy

pub loop-g-init : goal.loop-g-init
loop-g-init c = settled_start _ _ _ _ (kept_self _ _)

pub settle_at-requires : goal.settle_at-requires
settle_at-requires c =
    (search rules, record { roomy = record { some = c.requires.roomy.some; few = c.requires.roomy.few; room = omega (arith, c.requires.roomy.room, c.rounds.ensures.size, c.loop-g.invariant.kept.size) }; known = c.requires.known })

pub loop-g-preserved : goal.loop-g-preserved
loop-g-preserved c = settled_turn _ _ _ c.loop-g.invariant c.settle_at.ensures

pub returns : goal.returns
returns c = settled_end _ _ _ c.rounds.ensures (search rules) c.loop-g.invariant
