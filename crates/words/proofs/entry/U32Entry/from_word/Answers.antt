-- `from_word` at 32 bits meets its contract: two words, the second where the next one stands. Assumes nothing.
use Rattle.words.proofs.Fronts.{long_in_words, long_from_word}
use Rattle.words.proofs.entry.U32Entry.from_word.Goals as goal

pub long_at-requires : goal.long_at-requires
long_at-requires c = long_in_words c.args.image.now c.args.i _ c.requires c.offset_of.ensures

pub returns : goal.returns
returns c = long_from_word c.args.image.now c.args.i _ c.requires c.offset_of.ensures _ c.long_at.ensures
