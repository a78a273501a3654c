-- `rack::history_place`. Assumes nothing.
use native.Mathlib.Omega.{arith}
use mathlib.Core.Path.{sym, ap, ◌∙◌}
use Rattle.trees.specs.Answers.{judged_of}
use Rattle.rack.proofs.Outcomes.{place_small}
use Rattle.rack.proofs.history_place.Goals as goal

pub overflow_cast-result : goal.overflow_cast-result
overflow_cast-result c = omega (arith, place_small _ _ _ _ (sym (ap judged_of c.in-Err.is) ∙ c.judge_pair.ensures))
