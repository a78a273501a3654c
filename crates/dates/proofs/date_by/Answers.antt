-- `dates::date_by`: the nearest speciation is the first on what is left of the line. Assumes nothing.
use native.Mathlib.Omega.{arith}
use mathlib.Core.Path.{◌≡◌, refl, ◌∙◌}
use lib.ListN.{get_or}
use Rattle.dates.proofs.Dates.{line_shorter, latest_start, nearest_turn, date_not, date_from}
use borrow.Author.Rules.{rules}
use Rattle.dates.proofs.date_by.Goals as goal

pub offset_bounds-places-v : goal.offset_bounds-places-v
offset_bounds-places-v c = omega (arith, c.requires.inside, c.requires.tree.1.few)

pub overflow_cast-lower : goal.overflow_cast-lower
overflow_cast-lower c = omega (arith, c.type_inv.places c.args.node.0)

pub offset_bounds-labels-v : goal.offset_bounds-labels-v
offset_bounds-labels-v c = omega (arith, c.requires.inside, c.requires.tree.1.few)

pub returns-then-labels-v-ne2 : goal.returns-then-labels-v-ne2
returns-then-labels-v-ne2 c = λ w X. date_not X _ c.requires.inside c.if-labels-v-ne2.true

pub offset_bounds-gene_parents-v : goal.offset_bounds-gene_parents-v
offset_bounds-gene_parents-v c = omega (arith, c.requires.inside, c.requires.tree.1.few)

pub overflow_cast-u : goal.overflow_cast-u
overflow_cast-u c = omega (arith, c.type_inv.gene_parents c.args.node.0)

pub loop-u-init : goal.loop-u-init
loop-u-init c = (refl, λ w X. latest_start X _ c.requires.inside)

pub offset_bounds-labels-u : goal.offset_bounds-labels-u
offset_bounds-labels-u c = omega (arith, c.requires.tree.1.few)

pub offset_bounds-places-u : goal.offset_bounds-places-u
offset_bounds-places-u c = omega (arith, c.requires.tree.1.few)

pub overflow_cast-result : goal.overflow_cast-result
overflow_cast-result c = omega (arith, c.type_inv.places c.loop-u.u)

pub offset_bounds-gene_parents-u : goal.offset_bounds-gene_parents-u
offset_bounds-gene_parents-u c = omega (arith, c.requires.tree.1.few)

pub overflow_cast-u-in-loop-u : goal.overflow_cast-u-in-loop-u
overflow_cast-u-in-loop-u c = omega (arith, c.type_inv.gene_parents c.loop-u.u)

pub loop-u-smaller : goal.loop-u-smaller
loop-u-smaller c = line_shorter c.requires.tree _ (search rules)

pub loop-u-preserved : goal.loop-u-preserved
loop-u-preserved c = (refl, λ w X. c.loop-u.invariant.1 w X ∙ nearest_turn X _ (search rules) (search rules))

pub returns : goal.returns
returns c =
    let two : get_or c.args.labels.now c.args.node.0 0 ≡ 2 = search rules in λ w X. date_from X _ _ c.requires.inside (search rules) two (c.loop-u.invariant.1 w X)
