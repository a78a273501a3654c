-- `rounds::count_held`: so many more of the gene nodes passed have a species below the end of the round than below its begin. Assumes nothing.
use native.Mathlib.Omega.{arith}
use mathlib.Core.Path.{◌≡◌}
use lib.ListN.{length}
use Rattle.trees.specs.Lists.{range, total, one}
use mathlib.Core.Bool.{true, false}
use Rattle.rounds.proofs.Held.{round_more}
use borrow.Author.Rules.{rules}
use Rattle.rounds.proofs.count_held.Goals.{then-held_at, else-held_at}
use Rattle.rounds.proofs.count_held.Goals as goal

pub loop-i-init : goal.loop-i-init
unfolding range total
loop-i-init c = (search rules, omega arith)

pub held_at-requires : goal.held_at-requires
held_at-requires c = (c.requires.0, search rules, c.requires.1)

pub loop-i-preserved : goal.loop-i-preserved
unfolding one
loop-i-preserved c =
    elim c.if-held_at.branch [
      | then-held_at w ↦ round_more _ _ _ _ _ _ _ true w.count-is (rw w.if-held_at.true at c.held_at.ensures) c.loop-i.invariant
      | else-held_at w ↦ round_more _ _ _ _ _ _ _ false (omega (arith, w.count-is)) (rw w.if-held_at.false at c.held_at.ensures) c.loop-i.invariant
    ]

pub returns : goal.returns
returns c = let e : c.loop-i.i ≡ length c.args.gene_taxa.now = search rules in rw e at c.loop-i.invariant.1
