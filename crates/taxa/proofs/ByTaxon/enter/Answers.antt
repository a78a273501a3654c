-- `taxa::ByTaxon::enter`: a node whose taxon is not found below it heads its chain. Assumes nothing.
use native.Mathlib.Omega.{arith}
use mathlib.Core.Path.{sym, ◌∙◌}
use Rattle.taxa.proofs.Chains.{chained_part, entered_inner, entered_twice, entered_new}
use borrow.Author.Rules.{rules}
use Rattle.taxa.proofs.ByTaxon.enter.Goals as goal

pub returns-then-taxon-eq0 : goal.returns-then-taxon-eq0
returns-then-taxon-eq0 g c = entered_inner c.requires.0 c.requires.1 c.if-taxon-eq0.true

pub invariant_of-below : goal.invariant_of-below
invariant_of-below g c = record { whole = chained_part (omega (arith, c.requires.0)) c.requires.1 }

pub returns-then-is_some : goal.returns-then-is_some
returns-then-is_some g c = entered_twice c.requires.0 c.requires.1 c.if-taxon-eq0.false _ c.find.ensures (sym c.is_some.ensures ∙ c.if-is_some.true)

pub returns : goal.returns
returns g c = entered_new c.requires.0 c.requires.1 c.if-taxon-eq0.false _ c.find.ensures (search rules) (search rules) _ c.slot_of-s.ensures (sym c.is_some.ensures ∙ c.if-is_some.false)
