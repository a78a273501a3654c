-- `taxa::Lookup::find`: nothing from the pointer on carries the taxon. Assumes nothing.
use Rattle.taxa.proofs.Chains.{seeking_start}
use Rattle.taxa.proofs.Lookup.find.Goals as goal

pub loop-at-init : goal.loop-at-init
loop-at-init g c = rw c.slot_of.ensures (seeking_start _ _ c.requires c.args.self.now.whole)
