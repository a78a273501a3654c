-- `put` at 32 bits meets its contract: two words, the second where the next one stands. Assumes nothing.
use Rattle.std.proofs.Common.{◌+◌, ◌<◌, ◌≡◌, length, refl, ap, ◌∙◌, arith}
use Rattle.words.proofs.Words.{after_range, after_offset}
use Rattle.words.specs.Words.{after}
use Rattle.words.proofs.Fronts.{long_in_words}
use Rattle.puts.proofs.Putting.{put_two}
use Rattle.puts.proofs.word.U32Put.put.Goals as goal

pub put_word-requires : goal.put_word-requires
put_word-requires c = omega (arith, long_in_words c.args.image.now c.requires.0 c.args.at c.requires.2 c.requires.1, after_range c.args.at)

pub next-high-requires : goal.next-high-requires
next-high-requires c = omega (arith, long_in_words c.args.image.now c.requires.0 c.args.at c.requires.2 c.requires.1, after_range c.args.at)

pub put_word-requires-2 : goal.put_word-requires-2
put_word-requires-2 c =
    let inside : after c.args.at + 1 < length c.args.image.now = long_in_words c.args.image.now c.requires.0 c.args.at c.requires.2 c.requires.1 in
    omega (arith, c.next-high.ensures)

pub next-requires : goal.next-requires
next-requires c =
    let inside : after c.args.at + 1 < length c.args.image.now = long_in_words c.args.image.now c.requires.0 c.args.at c.requires.2 c.requires.1 in
    omega (arith, c.next-high.ensures)

pub returns-clause-put : goal.returns-clause-put
returns-clause-put c =
    λ i e w. put_two c.args.image.now _ i c.args.at e c.args.self (c.put_word-2.ensures ∙ rw (c.put_word.ensures, c.next-high.ensures) refl)

pub returns-clause-next : goal.returns-clause-next
returns-clause-next c =
    λ i e. let z : i + 2 ≡ i + 1 + 1 = omega arith in
    rw z (c.next.ensures ∙ ap after (c.next-high.ensures ∙ ap after e ∙ after_offset i) ∙ after_offset (i + 1))
