-- `rack::short_of_counts`. Assumes nothing.
use mathlib.Core.Path.{sym, ap, ◌∙◌}
use Rattle.trees.specs.Answers.{judged_of}
use Rattle.rack.proofs.Outcomes.{short_refused, short_sound}
use Rattle.rack.proofs.short_of_counts.Goals as goal

pub returns-in-Ok : goal.returns-in-Ok
returns-in-Ok c = λ p l k h. short_sound _ p l k h (sym c.judge_pair.ensures ∙ ap judged_of c.in-Ok.is)

pub returns-in-Err : goal.returns-in-Err
returns-in-Err c = λ p l k h. rw c.from.ensures (short_refused _ p l k h _ _ _ (sym c.judge_pair.ensures ∙ ap judged_of c.in-Err.is))
