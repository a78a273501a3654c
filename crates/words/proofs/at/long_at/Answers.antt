-- `long_at` meets its contract: two words, the second where the next one stands. Assumes nothing.
use native.Mathlib.Omega.{arith}
use Rattle.words.proofs.Words.{after_range}
use Rattle.words.proofs.at.long_at.Goals as goal

pub word_at-requires : goal.word_at-requires
word_at-requires c = omega (arith, after_range c.args.at)

pub next-requires : goal.next-requires
next-requires c = omega (arith, after_range c.args.at, c)
