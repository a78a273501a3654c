-- `from_word` at 16 bits meets its contract. Assumes nothing.
use Rattle.std.proofs.Common.{arith}
use Rattle.words.proofs.Tables.{length_content}
use Rattle.words.proofs.Entries.{one_word}
use Rattle.words.proofs.entry.U16Entry.from_word.Goals as goal

pub returns : goal.returns
returns c = one_word c.args.i _ _ (omega (arith, length_content c.args.image.now, c.requires.room)) c.nth_word.ensures
