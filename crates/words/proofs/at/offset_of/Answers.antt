-- `offset_of` meets its contract. Assumes nothing.
use mathlib.Core.Path.{refl}
use Rattle.words.specs.Words.{offset}
use Rattle.words.proofs.at.offset_of.Goals as goal

pub returns : goal.returns
unfolding offset
returns c = refl
