-- `fills::settling::ask_for`: a hint that counts leads to a node. Assumes nothing.
use native.Mathlib.Omega.{arith}
use mathlib.Core.Path.{sym, ◌∙◌}
use lib.ListN.{length}
use Rattle.hints.proofs.Asked.{ask_at}
use Rattle.fills.proofs.Turns.{kept_self, kept_set}
use Rattle.fills.proofs.settling.ask_for.Goals as goal

pub returns-then-sought-eq0 : goal.returns-then-sought-eq0
returns-then-sought-eq0 c = kept_self _ _

pub overflow_cast-place : goal.overflow_cast-place
overflow_cast-place c = omega (arith, c.type_inv.places c.args.node.0)

pub returns-then-carries : goal.returns-then-carries
returns-then-carries c = kept_self _ _

pub overflow_cast-places : goal.overflow_cast-places
overflow_cast-places c = omega (arith, (ask_at c.args.species_taxa.now c.args.hints.now _ _ (sym c.ask.ensures ∙ c.in-Some.is)).0, c.requires.1.few)

pub returns-in-Some : goal.returns-in-Some
returns-in-Some c = kept_set _ _ c.requires.0 (kept_self (length c.args.gene_taxa.now) c.args.places.now)

pub returns-in_default : goal.returns-in_default
returns-in_default c = kept_self _ _
