-- `nesting::positions::Positions::place_nodes`: the two loops together. Assumes nothing.
use Rattle.nesting.proofs.Runs.{laid}
use Rattle.nesting.proofs.positions.Positions.place_nodes.Goals as goal

pub returns : goal.returns
returns g c = laid c.requires.tree.1 c.requires.first c.share_runs.ensures c.place_runs.ensures
