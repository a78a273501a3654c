-- `nth` at 16 bits meets its contract. Assumes nothing.
use Rattle.std.proofs.Common.{◌*◌, arith}
use Rattle.words.proofs.Entries.{word_bytes}
use Rattle.words.proofs.entry.U16Entry.nth.Goals as goal

pub returns : goal.returns
returns c = word_bytes (2 * c.args.k) _ _ _ (omega arith) (omega arith) c.word_at.ensures
