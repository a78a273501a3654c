-- `fills::go_up`: on the way up all that is done is right. Assumes nothing.
use borrow.Author.Rules.{rules}
use Prim.Native.Nat.{◌≤◌, ◌<◌}
use native.Mathlib.Omega.{arith}
use mathlib.Core.Path.{refl}
use lib.ListN.{length, get_or, length-set}
use Rattle.fills.proofs.Turns.{going_start, going_root, going_half, going_ready, going_done, going_nearer}
use Rattle.fills.proofs.go_up.Goals as goal

pub loop-gene_parents-init : goal.loop-gene_parents-init
loop-gene_parents-init c = going_start c.requires.0

pub offset_bounds-gene_parents-v : goal.offset_bounds-gene_parents-v
offset_bounds-gene_parents-v c = omega (arith, c.loop-gene_parents.invariant.inside, c.requires.0.sound.genes.few)

pub bounds-gene_parents-v : goal.bounds-gene_parents-v
bounds-gene_parents-v c = c.loop-gene_parents.invariant.inside

pub overflow_cast-u : goal.overflow_cast-u
overflow_cast-u c = omega (arith, c.type_inv.gene_parents c.loop-gene_parents.v)

pub shape_of-places-then-q-u : goal.shape_of-places-then-q-u
shape_of-places-then-q-u c = c.loop-gene_parents.invariant.places_kept.size

pub shape_of-labels-then-q-u : goal.shape_of-labels-then-q-u
shape_of-labels-then-q-u c = c.loop-gene_parents.invariant.labels_kept.size

pub returns-then-q-u : goal.returns-then-q-u
returns-then-q-u c =
    let upper : length c.args.trees.now.genes.parents.now ≤ get_or c.args.trees.now.genes.parents.now c.loop-gene_parents.v 0 = search rules in going_root c.requires.0 c.loop-gene_parents.invariant upper

pub offset_bounds-labels-u : goal.offset_bounds-labels-u
offset_bounds-labels-u c =
    let lower : get_or c.args.trees.now.genes.parents.now c.loop-gene_parents.v 0 < length c.args.trees.now.genes.parents.now = search rules in omega (arith, lower, c.requires.0.sound.genes.few)

pub bounds-labels-u : goal.bounds-labels-u
bounds-labels-u c =
    let lower : get_or c.args.trees.now.genes.parents.now c.loop-gene_parents.v 0 < length c.args.trees.now.genes.parents.now = search rules in omega (arith, lower, c.loop-gene_parents.invariant.filling.labels_room)

pub offset_bounds-places-v : goal.offset_bounds-places-v
offset_bounds-places-v c = omega (arith, c.loop-gene_parents.invariant.inside, c.requires.0.sound.genes.few)

pub bounds-places-v : goal.bounds-places-v
bounds-places-v c = omega (arith, c.loop-gene_parents.invariant.inside, c.loop-gene_parents.invariant.filling.places_room)

pub offset_bounds-places-u : goal.offset_bounds-places-u
offset_bounds-places-u c =
    let lower : get_or c.args.trees.now.genes.parents.now c.loop-gene_parents.v 0 < length c.args.trees.now.genes.parents.now = search rules in omega (arith, lower, c.requires.0.sound.genes.few)

pub bounds-places-u : goal.bounds-places-u
bounds-places-u c =
    let lower : get_or c.args.trees.now.genes.parents.now c.loop-gene_parents.v 0 < length c.args.trees.now.genes.parents.now = search rules in omega (arith, lower, c.loop-gene_parents.invariant.filling.places_room)

pub offset_bounds-labels-u-then-labels-u-eq3 : goal.offset_bounds-labels-u-then-labels-u-eq3
offset_bounds-labels-u-then-labels-u-eq3 c =
    let lower : get_or c.args.trees.now.genes.parents.now c.loop-gene_parents.v 0 < length c.args.trees.now.genes.parents.now = search rules in omega (arith, lower, c.requires.0.sound.genes.few)

pub bounds-labels-u-then-labels-u-eq3 : goal.bounds-labels-u-then-labels-u-eq3
bounds-labels-u-then-labels-u-eq3 c =
    let lower : get_or c.args.trees.now.genes.parents.now c.loop-gene_parents.v 0 < length c.args.trees.now.genes.parents.now = search rules in omega (arith, lower, c.loop-gene_parents.invariant.filling.labels_room)

pub shape_of-places-then-labels-u-eq3 : goal.shape_of-places-then-labels-u-eq3
shape_of-places-then-labels-u-eq3 c = simp length-set c.loop-gene_parents.invariant.places_kept.size

pub shape_of-labels-then-labels-u-eq3 : goal.shape_of-labels-then-labels-u-eq3
shape_of-labels-then-labels-u-eq3 c = simp length-set c.loop-gene_parents.invariant.labels_kept.size

pub returns-then-labels-u-eq3 : goal.returns-then-labels-u-eq3
returns-then-labels-u-eq3 c =
    let lower : get_or c.args.trees.now.genes.parents.now c.loop-gene_parents.v 0 < length c.args.trees.now.genes.parents.now = search rules in going_half c.requires.0 c.loop-gene_parents.invariant lower c.if-labels-u-eq3.true

pub finish-requires : goal.finish-requires
finish-requires c =
    let lower : get_or c.args.trees.now.genes.parents.now c.loop-gene_parents.v 0 < length c.args.trees.now.genes.parents.now = search rules in (going_ready c.requires.0 c.loop-gene_parents.invariant lower c.if-labels-u-eq3.false, c.requires.1)

pub loop-gene_parents-smaller : goal.loop-gene_parents-smaller
loop-gene_parents-smaller c =
    let lower : get_or c.args.trees.now.genes.parents.now c.loop-gene_parents.v 0 < length c.args.trees.now.genes.parents.now = search rules in going_nearer c.requires.0 c.loop-gene_parents.invariant lower

pub loop-gene_parents-preserved : goal.loop-gene_parents-preserved
loop-gene_parents-preserved c =
    let lower : get_or c.args.trees.now.genes.parents.now c.loop-gene_parents.v 0 < length c.args.trees.now.genes.parents.now = search rules in going_done c.requires.0 c.loop-gene_parents.invariant lower c.if-labels-u-eq3.false _ _ c.finish.ensures
