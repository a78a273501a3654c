-- `image_size` meets its contract. Assumes nothing.
use mathlib.Core.Path.{refl}
use Rattle.blocks.specs.Image.{fewest}
use Rattle.writing.proofs.put.image_size.Goals as goal

pub returns : goal.returns
unfolding fewest
returns c = refl
