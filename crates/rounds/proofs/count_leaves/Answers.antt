-- `rounds::count_leaves`: so many of the nodes passed are leaves. Assumes nothing.
use mathlib.Core.Path.{◌≡◌, refl}
use lib.ListN.{length}
use Rattle.trees.specs.Lists.{range, total}
use Rattle.rounds.specs.Rounds.{leaf}
use Rattle.rounds.proofs.Held.{leaves_more}
use borrow.Author.Rules.{rules}
use Rattle.rounds.proofs.count_leaves.Goals as goal

pub loop-taxon-init : goal.loop-taxon-init
unfolding range total
loop-taxon-init c = (search rules, refl)

pub loop-taxon-preserved : goal.loop-taxon-preserved
unfolding leaf
loop-taxon-preserved c = leaves_more _ _ _ _ c.from-count.ensures c.loop-taxon.invariant

pub returns : goal.returns
returns c = let e : c.loop-taxon.taxon-index ≡ length c.args.gene_taxa.now = search rules in rw e at c.loop-taxon.invariant.1
