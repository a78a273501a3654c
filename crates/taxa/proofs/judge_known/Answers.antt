-- `taxa::judge_known`. Assumes nothing.
use Rattle.taxa.proofs.Chains.{chained_start, indexed_alone}
use native.Mathlib.Omega.{arith}
use borrow.Author.Rules.{rules}
use Rattle.taxa.proofs.judge_known.Goals as goal

pub enter_all-requires : goal.enter_all-requires
enter_all-requires c = (search rules, let A = c.requires in chained_start _ 2047 A.few (omega arith))

pub invariant_of-species : goal.invariant_of-species
invariant_of-species c = record { whole = indexed_alone c.requires c.enter_all.ensures }
