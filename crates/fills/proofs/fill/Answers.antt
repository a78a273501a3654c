-- `fills::fill`: the leaves passed, and all that follows from them, are done. Assumes nothing.
use mathlib.Core.Path.{refl, ◌∙◌}
use Rattle.trees.specs.Tables.{pair_of}
use Rattle.fills.proofs.Turns.{Homed, to_start, to_next, to_end}
use Rattle.fills.proofs.Seats.{settleable, settled_home}
use Rattle.fills.proofs.Written.{filled_meets}
use borrow.Author.Rules.{rules}
use Rattle.fills.proofs.fill.Goals as goal

pub in_order-ordered-requires : goal.in_order-ordered-requires
in_order-ordered-requires c = let S = c.requires.sound.species.tree in (S.some, S.few)

pub settle-requires : goal.settle-requires
settle-requires c = settleable c.requires

pub mark-requires : goal.mark-requires
mark-requires c = c.requires.labels_room

pub loop-k-init : goal.loop-k-init
loop-k-init c =
    let homed : let s = c in Homed (pair_of s.args.trees.now) s.args.places.now c.settle.new.places = settled_home c.requires _ c.settle.ensures in (to_start c.requires homed c.mark.ensures)

pub take-requires : goal.take-requires
take-requires c =
    (record { sound = c.requires.sound; inside = search rules; filling = c.loop-k.invariant.filling }, c.in_order-ordered.ensures.0)

pub loop-k-preserved : goal.loop-k-preserved
loop-k-preserved c = to_next _ _ _ _ _ c.loop-k.invariant c.take.ensures

pub shape_of-places : goal.shape_of-places
shape_of-places c =
    let homed : let s = c in Homed (pair_of s.args.trees.now) s.args.places.now c.settle.new.places = settled_home c.requires _ c.settle.ensures in c.loop-k.invariant.places_kept.size ∙ homed.kept.size

pub shape_of-labels : goal.shape_of-labels
shape_of-labels c = c.loop-k.invariant.labels_kept.size ∙ c.mark.ensures.kept.size

pub returns : goal.returns
returns c =
    let homed : let s = c in Homed (pair_of s.args.trees.now) s.args.places.now c.settle.new.places = settled_home c.requires _ c.settle.ensures in filled_meets (to_end c.requires homed c.mark.ensures _ _ _ (search rules) c.loop-k.invariant)
