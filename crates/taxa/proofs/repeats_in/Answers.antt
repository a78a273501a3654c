-- `taxa::repeats_in`. Assumes nothing.
use Rattle.taxa.proofs.Chains.{chained_start}
use borrow.Author.Rules.{rules}
use Rattle.taxa.proofs.repeats_in.Goals as goal

pub enter_all-requires : goal.enter_all-requires
enter_all-requires g c = (search rules, chained_start _ _ c.requires.0 c.requires.1)

pub returns : goal.returns
returns g c = c.enter_all.ensures.found
