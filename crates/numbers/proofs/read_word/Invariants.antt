-- `numbers::read_word`: what was read is digits, at most ten, and they spell the value so far. Assumes nothing.
use Rattle.numbers.proofs.Spelling.{Spelled, TooLong}
use Rattle.numbers.proofs.read_word.Given as goal

abbrev pub invariant-loop-i : goal.invariant-loop-i
invariant-loop-i l = Spelled l.text l.at l.i l.value × TooLong l.text l.at l.i
