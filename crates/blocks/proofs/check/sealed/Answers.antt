-- `sealed` meets its contract. Assumes nothing.
use Rattle.std.proofs.Common.{ap}
use Rattle.blocks.specs.Blocks.{checked}
use Rattle.blocks.proofs.Both.{both_second, both_first}
use Rattle.blocks.proofs.check.sealed.Goals as goal

pub returns-then-word_at-x : goal.returns-then-word_at-x
unfolding checked
returns-then-word_at-x c = let a = c.add_up-c in both_second _ _ _ _ _ _ _ _ c.word_at.ensures c.word_at-then-word_at-x.ensures (ap (λ t. t.a) a.ensures) (ap (λ t. t.b) a.ensures) c.if-word_at-x.true

pub returns-else-word_at-x : goal.returns-else-word_at-x
unfolding checked
returns-else-word_at-x c = both_first _ _ _ _ _ c.word_at.ensures (ap (λ t. t.a) c.add_up-c.ensures) c.if-word_at-x.false
