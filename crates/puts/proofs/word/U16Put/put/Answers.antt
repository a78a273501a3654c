-- `put` at 16 bits meets its contract. Assumes nothing.
use Rattle.std.proofs.Common.{◌+◌, ◌<◌, length, ap, ◌∙◌, arith}
use Rattle.words.proofs.Words.{after_offset}
use Rattle.words.specs.Words.{after}
use Rattle.words.proofs.Tables.{word_in}
use Rattle.puts.proofs.Putting.{put_one}
use Rattle.puts.proofs.word.U16Put.put.Goals as goal

pub put_word-requires : goal.put_word-requires
put_word-requires c = word_in c.args.image.now c.requires.0 c.args.at (omega (arith, c.requires.2.room)) c.requires.1

pub next-requires : goal.next-requires
next-requires c =
    let inside : c.args.at + 1 < length c.args.image.now = word_in c.args.image.now c.requires.0 c.args.at (omega (arith, c.requires.2.room)) c.requires.1 in
    omega arith

pub returns-clause-put : goal.returns-clause-put
returns-clause-put c = λ i e w. put_one c.args.image.now _ i c.args.at e _ c.put_word.ensures

pub returns-clause-next : goal.returns-clause-next
returns-clause-next c = λ i e. c.next.ensures ∙ ap after e ∙ after_offset i
