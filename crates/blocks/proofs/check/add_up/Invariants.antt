-- `add_up` meets its contract. The loops' invariant: the sums so far lead over the bytes that are left to the sums of all. Assumes nothing.
use Rattle.std.proofs.Common.{[], drop}
use Rattle.blocks.specs.Answers.{sums_of}
use Rattle.blocks.proofs.Sums.{Adding}
use Rattle.blocks.proofs.check.add_up.Given as goal

abbrev pub invariant-loop-four : goal.invariant-loop-four
invariant-loop-four l = Adding l.b [] l.four-iterator.rest.now l.four-iterator.size (sums_of l.s)

abbrev pub invariant-loop-byte : goal.invariant-loop-byte
invariant-loop-byte l = Adding l.b (drop l.byte-index l.four) l.four-iterator.rest.now l.four-iterator.size (sums_of l.s)
