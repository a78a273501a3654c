-- `taxa::species_of`: no node passed carries the taxon. Assumes nothing.
use mathlib.Core.Path.{sym}
use lib.ListN.{get_or}
use borrow.Author.Count.{below_more}
use borrow.Author.Tests.{ne_eqb}
use Rattle.trees.proofs.Lists.{lowest_none}
use Rattle.trees.proofs.Spots.{spot_none}
use borrow.Author.Rules.{rules}
use Rattle.taxa.proofs.species_of.Goals as goal

pub loop-i-preserved : goal.loop-i-preserved
loop-i-preserved c = below_more _ _ c.loop-i.invariant (rw (ne_eqb (get_or c.args.species_taxa.now c.loop-i.i 0) c.args.taxon (search rules)) tt)

pub returns : goal.returns
returns c = sym (spot_none _ _ (lowest_none _ _ (λ j h. c.loop-i.invariant j (search rules))))
