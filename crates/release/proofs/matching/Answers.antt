-- `matching` meets its contract: the bytes of the first words are compared, or one entry by itself. Assumes nothing.
use Rattle.std.proofs.Common.{◌/◌, ◌≤◌, length, ◌∙◌}
use Rattle.std.proofs.Math.Nat.{div-le_of_le-mul}
use Rattle.words.proofs.Fronts.{entries_bytes, entries_first}
use Rattle.release.proofs.Comparing.{starts_one}
use borrow.Author.Rules.{rules}
use Rattle.release.proofs.matching.Goals as goal

pub returns-else-differ : goal.returns-else-differ
returns-else-differ g c =
    (search rules, starts_one _ c.args.table.now _ _ c.requires.1 (entries_first g.met.T.Entry.laws c.args.i _ 1 _ _ c.requires.1 c.from_word.ensures) c.index-table-0.is (c.differ.ensures c.if-differ.false))

pub returns-then-equal : goal.returns-then-equal
returns-then-equal g c =
    let m = c.together.result / c.WORDS-2.result in
    let low : m ≤ length c.args.table.now = div-le_of_le-mul c.WORDS-2.result (rw (c.WORDS.ensures, ← c.WORDS-2.ensures) at c.together.ensures.low) in (
      search rules,
      record {
        low = low;
        is = c.equal.ensures c.if-equal.true ∙ entries_bytes g.met.T.Entry.laws c.args.i _ m _ _ low (rw c.WORDS-3.ensures at c.bytes_of.ensures.1);
      },
    )
