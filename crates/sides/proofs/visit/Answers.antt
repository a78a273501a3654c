-- `sides::visit`. Assumes nothing.
use native.Mathlib.Omega.{arith}
use mathlib.Core.Path.{ap}
use mathlib.Core.Bool.{not}
use lib.ListN.{get_or}
use Rattle.sides.proofs.Steps.{visit_root, visit_out, visit_in, side_small}
use Rattle.sides.proofs.visit.Goals as goal

pub overflow_cast-u : goal.overflow_cast-u
overflow_cast-u c = omega (arith, c.type_inv.gene_parents c.args.node.0)

pub returns-then-gene_parents-u : goal.returns-then-gene_parents-u
returns-then-gene_parents-u c = visit_root c.requires c.if-gene_parents-u.true

pub overflow_cast-above : goal.overflow_cast-above
overflow_cast-above c = let s = c in omega (arith, c.type_inv.places (get_or s.args.gene_parents.now s.args.node.0 0))

pub overflow_cast-place : goal.overflow_cast-place
overflow_cast-place c = let s = c in omega (arith, c.type_inv.places s.args.node.0)

pub side_of-side-requires : goal.side_of-side-requires
side_of-side-requires c = let e = c in let s = e in (s.requires.tree, s.requires.placed _ e.if-gene_parents-u.false, s.requires.placed _ s.requires.inside)

pub returns-then-not-within : goal.returns-then-not-within
returns-then-not-within c = let o = c in let e = o in visit_out e.requires e.if-gene_parents-u.false o.side_of-side.result o.side_of-side.ensures _ c.within.ensures (ap not c.if-not-within.true)

pub merge-requires : goal.merge-requires
merge-requires c = let o = c in let e = o in side_small e.requires e.if-gene_parents-u.false o.side_of-side.result o.side_of-side.ensures

pub returns : goal.returns
returns c = let o = c in let e = o in visit_in e.requires e.if-gene_parents-u.false o.side_of-side.result o.side_of-side.ensures _ _ c.within.ensures (ap not c.if-not-within.false) c.merge.ensures
