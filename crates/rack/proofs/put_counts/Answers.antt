-- `rack::put_counts`. Assumes nothing.
use Rattle.rack.proofs.Outcomes.{four_put}
use Rattle.rack.proofs.put_counts.Goals as goal

pub returns : goal.returns
returns c = rw (c.from.ensures, c.from-2.ensures, c.from-3.ensures, c.from-4.ensures) (four_put _ _ _ _ _ c.requires)
