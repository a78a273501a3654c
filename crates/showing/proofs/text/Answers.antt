-- `showing::text`: what is left of the bytes, put after those that are held, makes what all of them make. Assumes nothing.
use native.Mathlib.Omega.{arith}
use mathlib.Core.Path.{sym, ◌∙◌}
use Rattle.showing.proofs.Holding.{text_turn, text_end}
use Rattle.showing.proofs.text.Goals as goal

pub loop-byte-preserved : goal.loop-byte-preserved
loop-byte-preserved c = let l = c.loop-byte in l.invariant ∙ text_turn _ _ _ l.byte-index (omega arith) c.put-held.ensures

pub returns : goal.returns
returns c = let l = c.loop-byte in sym (l.invariant ∙ text_end _ _ l.byte-index (omega arith))
