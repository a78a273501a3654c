-- `rounds::all_held`: no more are counted than gene leaves have a species in the rounds passed. Assumes nothing.
use native.Mathlib.Omega.{arith}
use mathlib.Core.Path.{◌≡◌, ◌∙◌}
use lib.ListN.{length}
use lib.Dec.{eqb→eq}
use Rattle.rounds.proofs.Held.{held_few, held_all}
use borrow.Author.Rules.{rules}
use Rattle.rounds.proofs.all_held.Goals as goal

pub loop-from-init : goal.loop-from-init
loop-from-init c = (search rules, search rules, search rules, omega arith)

pub enter-to-requires : goal.enter-to-requires
enter-to-requires c = (search rules, c.requires.few)

pub count_held-count-requires : goal.count_held-count-requires
count_held-count-requires c = (search rules, c.requires)

pub overflow_add-count : goal.overflow_add-count
overflow_add-count c =
    let s = c in
    omega (arith, c.count_held-count.ensures, held_few s.args.species_taxa.now s.args.gene_taxa.now c.enter-to.result (length s.args.gene_taxa.now))

pub loop-from-preserved : goal.loop-from-preserved
loop-from-preserved c = (search rules, search rules, search rules, omega (arith, c.count_held-count.ensures))

pub returns : goal.returns
returns c = λ t. let e : c.loop-from.from ≡ length c.args.species_taxa.now = search rules in
    held_all _ _ _ (eqb→eq _ _ t ∙ c.loop-from.invariant.2) (rw e at c.loop-from.invariant.3)
