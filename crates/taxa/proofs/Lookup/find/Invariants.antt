-- `taxa::Lookup::find`: nothing from the pointer on carries the taxon. Assumes nothing.
use Rattle.taxa.proofs.Chains.{Seeking}
use Rattle.taxa.proofs.Lookup.find.Given as goal

abbrev pub invariant-loop-at : goal.invariant-loop-at
invariant-loop-at g l = Seeking l.taxa l.taxon l.at

abbrev pub decreases-loop-at : goal.decreases-loop-at
decreases-loop-at g l = l.at
