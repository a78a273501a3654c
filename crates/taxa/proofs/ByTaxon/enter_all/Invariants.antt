-- `taxa::ByTaxon::enter_all`: the nodes passed have taxa of their own and are in their chains. Assumes nothing.
use Prim.Native.Nat.{ℕ, ◌<◌}
use lib.Dec.{T}
use Rattle.taxa.specs.Searches.{fresh_taxon}
use Rattle.taxa.specs.Chains.{Chained}
use Rattle.taxa.proofs.ByTaxon.enter_all.Given as goal

abbrev pub invariant-loop-i : goal.invariant-loop-i
invariant-loop-i g l = ((k : ℕ) → k < l.i → T (fresh_taxon l.taxa k)) × Chained l.taxa l.i l.self
