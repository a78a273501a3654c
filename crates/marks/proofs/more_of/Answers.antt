-- `marks::more_of`. Assumes nothing.
use Rattle.marks.specs.Bits.{more}
use Rattle.marks.proofs.Digits.{bit_at, more_fits}
use borrow.Author.Rules.{rules}
use Rattle.marks.proofs.more_of.Goals as goal

pub overflow_add-result : goal.overflow_add-result
unfolding more
overflow_add-result c = rw (bit_at c.args.k c.requires.0) (record { fits = more_fits _ _ c.requires.0 (search rules) c.requires.1 })

pub returns : goal.returns
unfolding more
returns c = rw (bit_at c.args.k c.requires.0)
