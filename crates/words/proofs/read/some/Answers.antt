-- `some` meets its contract: the bytes of the first words are copied, or one entry is read by itself. Assumes nothing.
use Rattle.std.proofs.Common.{◌/◌, ◌≤◌, length, ◌∙◌, arith}
use Rattle.std.proofs.Math.Nat.{div-le_of_le-mul}
use Rattle.words.proofs.Fronts.{entries_bytes, entries_first, front_is, front_one}
use Rattle.words.proofs.read.some.Goals as goal

pub returns-then-m-eq0 : goal.returns-then-m-eq0
returns-then-m-eq0 g c = front_one _ c.args.out.now _ c.requires.1 (entries_first g.met.T.Entry.laws c.args.i _ 1 _ _ c.requires.1 c.from_word.ensures)

pub returns : goal.returns
returns g c =
    let m = c.together.result / c.WORDS-2.result in
    let most : m ≤ length c.args.out.now = div-le_of_le-mul c.WORDS-2.result (rw (c.WORDS.ensures, ← c.WORDS-2.ensures) at c.together.ensures.low) in
    front_is _ c.args.out.now _ m (omega arith) most
    (c.copy.ensures ∙ entries_bytes g.met.T.Entry.laws c.args.i _ m _ _ most (rw c.WORDS-3.ensures at c.bytes_of.ensures.1))
