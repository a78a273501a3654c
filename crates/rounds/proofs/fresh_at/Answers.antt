-- `rounds::fresh_at`. Assumes nothing.
use mathlib.Core.Path.{sym, ◌∙◌}
use Rattle.trees.proofs.Bools.{not_swap}
use lib.ListN.{get_or}
use lib.Seq.{length-take-le}
use borrow.Author.Tests.{eq-eqb}
use Rattle.taxa.specs.Searches.{fresh_taxon}
use Rattle.rounds.proofs.Repeats.{scan_fresh}
use borrow.Author.Rules.{rules}
use Rattle.rounds.proofs.fresh_at.Goals as goal

pub returns-then-taxon-eq0 : goal.returns-then-taxon-eq0
unfolding fresh_taxon
returns-then-taxon-eq0 c = rw (eq-eqb (get_or c.args.species_taxa.now c.args.node.0 0) 0 c.if-taxon-eq0.true)

pub slice_bounds-species_of-end : goal.slice_bounds-species_of-end
slice_bounds-species_of-end c = sym (length-take-le _ _ (search rules))

pub returns-else-taxon-eq0 : goal.returns-else-taxon-eq0
returns-else-taxon-eq0 c = not_swap _ _ c.is_none.ensures ∙ sym (scan_fresh _ _ (search rules) c.if-taxon-eq0.false c.species_of.result c.species_of.ensures)
