-- `numbers::read_number`. Assumes nothing.
use mathlib.Core.Path.{◌∙◌}
use Rattle.numbers.specs.Cursor.{number_from}
use Rattle.numbers.proofs.Cursor.{past_inside}
use Rattle.numbers.proofs.read_number.Goals as goal

pub read_word-requires : goal.read_word-requires
read_word-requires c = rw c.skip_blanks.ensures (past_inside _ _ c.requires)

pub returns : goal.returns
unfolding number_from
returns c = c.read_word.ensures ∙ rw c.skip_blanks.ensures
