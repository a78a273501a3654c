-- `nth` at 32 bits meets its contract. Assumes nothing.
use Rattle.std.proofs.Common.{◌*◌, arith}
use Rattle.words.proofs.Entries.{long_bytes}
use Rattle.words.proofs.entry.U32Entry.nth.Goals as goal

pub returns : goal.returns
returns c = long_bytes (4 * c.args.k) _ _ _ (omega arith) (omega arith) c.long_from.ensures
