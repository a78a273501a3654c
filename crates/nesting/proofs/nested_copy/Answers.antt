-- `nesting::nested_copy`: positions in fresh tables, and all gene nodes pass. Assumes nothing.
use Rattle.nesting.proofs.Codes.{spread_nests}
use Rattle.nesting.proofs.nested_copy.Goals as goal

pub returns : goal.returns
returns c = λ t. spread_nests c.requires.nestable c.place_nodes.ensures (c.all_nested.ensures t)
