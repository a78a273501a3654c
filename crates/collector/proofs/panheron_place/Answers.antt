-- `collector::panheron_place`. Assumes nothing.
use native.Mathlib.Omega.{arith}
use mathlib.Core.Path.{sym, ap, ◌∙◌}
use Rattle.trees.specs.Answers.{judged_of}
use Rattle.collector.proofs.Asking.{place_small}
use Rattle.collector.proofs.panheron_place.Goals as goal

pub overflow_cast-result : goal.overflow_cast-result
overflow_cast-result c = omega (arith, place_small c.args.image.now c.args.parents.now c.args.taxa.now _ _ _ (sym (ap judged_of c.in-Err.is) ∙ c.refusal.ensures))
