-- `nth_word` meets its contract: word i stands at its offset. Assumes nothing.
use native.Mathlib.Omega.{arith}
use mathlib.Core.Path.{sym, ◌∙◌}
use Rattle.words.proofs.Tables.{word_content, word_in}
use Rattle.words.proofs.read.nth_word.Goals as goal

pub word_at-requires : goal.word_at-requires
word_at-requires c = word_in c.args.image.now c.args.i _ (omega arith) c.offset_of.ensures

pub returns : goal.returns
returns c = c.word_at.ensures ∙ (rw c.offset_of.ensures (sym (word_content c.args.image.now c.args.i (omega arith))))
