-- `homes::all_homed`: the leaves passed are at their species. Assumes nothing.
use native.Mathlib.Omega.{arith}
use mathlib.Core.Path.{◌≡◌, refl}
use lib.ListN.{length}
use Rattle.std.proofs.Common.{tests}
use Rattle.std.proofs.lemmas.Iterator.{YieldsList-from_range}
use Rattle.std.proofs.lemmas.Iterator.Search.{all_from_yields_List}
use Rattle.trees.proofs.Bools.{true_T}
use Rattle.homes.specs.Homes.{homed_by}
use Rattle.homes.proofs.Homes.{all_meets}
use borrow.Author.Rules.{rules}
use Rattle.homes.proofs.all_homed.Goals as goal

pub returns : goal.returns
returns c =
    let s = c.args in
    let e : c.in-Ok.limit ≡ length s.species_taxa.now = search rules in
    all_meets _ _ _ _ (search rules) (rw e at (c.all_below.ensures.0 (true_T {b = c.all_below.result} c.if-not-all_below.false)))
    (all_from_yields_List (homed_by s.species_taxa.now s.gene_taxa.now s.places.now) _ _ c.all.result c.all.ensures.ran (YieldsList-from_range 0 _ _ refl (omega arith)) (λ x b q k. search (rules, tests)))
