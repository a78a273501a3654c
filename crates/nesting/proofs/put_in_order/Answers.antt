-- `nesting::put_in_order`. Assumes nothing.
use Rattle.nesting.proofs.Moving.{put}
use Rattle.nesting.proofs.put_in_order.Goals as goal

pub returns : goal.returns
returns c = put _ c.requires.tree.1 c.order.ensures c.move_places.ensures
