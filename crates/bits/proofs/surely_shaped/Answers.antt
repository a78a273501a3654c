-- `bits::surely_shaped`. Assumes nothing.
use native.Mathlib.Omega.{arith}
use Rattle.trees.proofs.Bools.{true_T}
use Rattle.trees.proofs.Soundness.{sized_is}
use Rattle.bits.proofs.Childing.{childed_shapely}
use Rattle.bits.proofs.surely_shaped.Goals as goal

pub count_pairs-requires : goal.count_pairs-requires
count_pairs-requires c = ((sized_is _ _ c.requires).few, c.blank.ensures)

pub all_like-requires : goal.all_like-requires
all_like-requires c = let z = sized_is _ _ c.requires in omega (arith, z.few, z.even)

pub returns-then-count_pairs : goal.returns-then-count_pairs
returns-then-count_pairs c = λ t. childed_shapely (sized_is _ _ c.requires).few _ _ c.requires (c.count_pairs.ensures (true_T c.if-count_pairs.true)) (c.all_like.ensures t)
