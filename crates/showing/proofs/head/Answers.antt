-- `showing::head`. Assumes nothing.
use Rattle.trees.specs.Lists.{pick}
use Rattle.showing.specs.Lines.{word_bytes}
use Rattle.showing.proofs.head.Goals as goal

pub returns-then-refused : goal.returns-then-refused
unfolding word_bytes pick
returns-then-refused c = rw c.if-refused.true c.text.ensures

pub returns : goal.returns
unfolding word_bytes pick
returns c = rw c.if-refused.false c.text-2.ensures
