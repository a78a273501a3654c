-- `climbs::steps_of`. Assumes nothing.
use lib.ListN.{length, get_or}
use borrow.Author.Tests.{lt-ltb, le-ltb}
use Rattle.trees.specs.Lists.{pick}
use Rattle.climbs.specs.Climbing.{steps_of}
use Rattle.climbs.proofs.steps_of.Goals as goal

pub returns-then-gene_parents-u : goal.returns-then-gene_parents-u
unfolding steps_of pick
returns-then-gene_parents-u c = let s = c in rw (le-ltb (get_or s.args.gene_parents.now s.args.node.0 0) (length s.args.gene_parents.now) c.if-gene_parents-u.true)

pub returns : goal.returns
unfolding steps_of pick
returns c =
    let s = c in
    rw (lt-ltb (get_or s.args.gene_parents.now s.args.node.0 0) (length s.args.gene_parents.now) c.if-gene_parents-u.false) c.steps_up.ensures
