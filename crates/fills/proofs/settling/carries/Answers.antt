-- `fills::settling::carries`. Assumes nothing.
use lib.ListN.{get_or}
use lib.Dec.{eqb→eq}
use Rattle.fills.proofs.settling.carries.Goals as goal

pub returns-then-s-species_taxa : goal.returns-then-s-species_taxa
returns-then-s-species_taxa c = λ t. (c.if-s-species_taxa.true, eqb→eq (get_or c.args.species_taxa.now c.args.place.0 0) c.args.sought t)
