-- `put_story` meets its contract: labels behind places. Assumes nothing.
use mathlib.Core.Path.{refl}
use Rattle.writing.proofs.Putting.{puts_on}
use Rattle.writing.proofs.put.put_story.Goals as goal

pub returns : goal.returns
returns c = puts_on _ _ _ _ _ _ _ c.put.ensures refl c.put-2.ensures
