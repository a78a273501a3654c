-- `nesting::nested_in`: positions in fresh tables, and all gene nodes pass. Assumes nothing.
use Rattle.nesting.proofs.Codes.{spread_nests}
use Rattle.nesting.proofs.nested_in.Goals as goal

pub returns : goal.returns
returns g c = λ t. spread_nests c.requires.0 c.place_nodes.ensures (c.all_nested.ensures t)
