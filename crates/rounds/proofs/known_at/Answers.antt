-- `rounds::known_at`. Assumes nothing.
use mathlib.Core.Path.{sym, ap, ◌∙◌}
use lib.ListN.{get_or}
use borrow.Author.Tests.{eq-eqb}
use Rattle.taxa.specs.Searches.{known_taxon}
use Rattle.rounds.proofs.Held.{scan_known}
use Rattle.rounds.proofs.known_at.Goals as goal

pub returns-then-sought-eq0 : goal.returns-then-sought-eq0
unfolding known_taxon
returns-then-sought-eq0 c = rw (eq-eqb (get_or c.args.gene_taxa.now c.args.node.0 0) 0 c.if-sought-eq0.true)

pub returns-else-sought-eq0 : goal.returns-else-sought-eq0
returns-else-sought-eq0 c = c.is_some.ensures ∙ sym (scan_known _ _ _ c.if-sought-eq0.false c.species_of.result c.species_of.ensures)
