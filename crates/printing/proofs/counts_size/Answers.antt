-- `printing::counts_size`. Assumes nothing.
use native.Mathlib.Omega.{arith}
use borrow.Author.Rules.{rules}
use Rattle.least.specs.Answers.{counts_of}
use Rattle.printing.proofs.Lines.{counts_length}
use Rattle.printing.proofs.counts_size.Goals as goal

pub returns : goal.returns
returns c = record { exact = omega (arith, counts_length (counts_of c.args.counts)); few = search rules }
