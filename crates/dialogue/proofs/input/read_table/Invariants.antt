-- `read_table`. The loop's invariant: a talk that was spoiled is the same. Assumes nothing.
use Rattle.std.proofs.Common.{◌≡◌, false}
use Rattle.dialogue.proofs.input.read_table.Given as goal

abbrev pub invariant-loop-place : goal.invariant-loop-place
invariant-loop-place g l = l.fn.talk.more ≡ false → l.talk ≡ l.fn.talk
