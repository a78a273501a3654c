-- `fills::take`: a leaf gets its label and goes up. Assumes nothing.
use Rattle.trees.specs.Tables.{pair_of}
use Rattle.fills.specs.Filling.{Risen}
use Rattle.fills.proofs.Turns.{take_inner, take_leaf, take_risen}
use Rattle.fills.proofs.take.Goals as goal

pub returns-then-trees-k-eq0 : goal.returns-then-trees-k-eq0
returns-then-trees-k-eq0 c = take_inner c.requires.0 c.if-trees-k-eq0.true

pub go_up-requires : goal.go_up-requires
go_up-requires c = (take_leaf c.requires.0 c.if-trees-k-eq0.false, c.requires.1)

pub shape_of-places : goal.shape_of-places
shape_of-places c =
    let risen : let s = c in
    Risen (pair_of s.args.trees.now) s.args.node.0 s.args.places.now c.go_up.new.places s.args.labels.now c.go_up.new.labels = take_risen c.requires.0 _ _ c.go_up.ensures in risen.places_kept.size

pub shape_of-labels : goal.shape_of-labels
shape_of-labels c =
    let risen : let s = c in
    Risen (pair_of s.args.trees.now) s.args.node.0 s.args.places.now c.go_up.new.places s.args.labels.now c.go_up.new.labels = take_risen c.requires.0 _ _ c.go_up.ensures in risen.labels_kept.size

pub returns : goal.returns
returns c =
    let risen : let s = c in
    Risen (pair_of s.args.trees.now) s.args.node.0 s.args.places.now c.go_up.new.places s.args.labels.now c.go_up.new.labels = take_risen c.requires.0 _ _ c.go_up.ensures in risen
