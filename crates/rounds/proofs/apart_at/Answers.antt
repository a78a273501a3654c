-- `rounds::apart_at`. Assumes nothing.
use lib.Dec.{eqb→eq, leb→le}
use Rattle.rounds.proofs.Repeats.{apart_inner, apart_found, apart_missed}
use Rattle.rounds.proofs.apart_at.Goals as goal

pub returns-then-taxon-eq0 : goal.returns-then-taxon-eq0
returns-then-taxon-eq0 c = λ t. apart_inner _ _ _ _ c.if-taxon-eq0.true

pub returns-in-Some : goal.returns-in-Some
returns-in-Some c = λ t. apart_found _ _ _ _ c.ask.result _ c.ask.ensures c.in-Some.is (eqb→eq _ _ (rw c.eq.ensures at t))

pub returns-in-None : goal.returns-in-None
returns-in-None c = λ t. apart_missed _ _ _ _ c.ask.result c.ask.ensures c.in-None.is (leb→le _ _ t)
