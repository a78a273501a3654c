-- `meets::join`: either way leads to where the two meet. Assumes nothing.
use mathlib.Core.Path.{◌≡◌, sym, ◌∙◌}
use lib.Dec.{eqb→eq}
use Rattle.trees.proofs.Bools.{true_T}
use Rattle.trees.proofs.Meets.{meet_self}
use Rattle.meets.proofs.join.Goals as goal

pub returns-then-eq : goal.returns-then-eq
returns-then-eq c = let e : c.args.a.0 ≡ c.args.b.0 = eqb→eq _ _ (true_T (sym c.eq.ensures ∙ c.if-eq.true)) in rw e (meet_self c.requires.2)
