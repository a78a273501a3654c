-- `printing::put_node`. Assumes nothing.
use native.Mathlib.Omega.{arith}
use lib.ListN.{length-set}
use Rattle.printing.specs.Printing.{node_line}
use Rattle.printing.proofs.Putting.{put_length, put_then, put_two, ended_length}
use Rattle.printing.proofs.Lines.{node_length, node_rest}
use Rattle.printing.proofs.put_node.Goals as goal

pub put_number-a-requires : goal.put_number-a-requires
put_number-a-requires c =
    omega (arith, node_length c.args.node.0 c.args.place.0 c.args.label, ended_length c.args.node.0 32, c.requires)

pub put_number-b-requires : goal.put_number-b-requires
put_number-b-requires c =
    let a = c.put_number-a.ensures in
    let whole = node_length c.args.node.0 c.args.place.0 c.args.label in
    omega (arith, a.place, put_length a, whole, ended_length c.args.node.0 32, ended_length c.args.place.0 32, c.requires)

pub bounds-out-b : goal.bounds-out-b
bounds-out-b c = omega (arith, node_rest _ _ _ _ c.requires (put_then c.put_number-a.ensures c.put_number-b.ensures))

pub overflow_add-out : goal.overflow_add-out
overflow_add-out c = omega (arith, node_rest _ _ _ _ c.requires (put_then c.put_number-a.ensures c.put_number-b.ensures))

pub bounds-out-b-2 : goal.bounds-out-b-2
bounds-out-b-2 c = simp length-set (omega (arith, node_rest _ _ _ _ c.requires (put_then c.put_number-a.ensures c.put_number-b.ensures)))

pub overflow_add-result : goal.overflow_add-result
overflow_add-result c = omega (arith, node_rest _ _ _ _ c.requires (put_then c.put_number-a.ensures c.put_number-b.ensures))

pub shape_of-out : goal.shape_of-out
shape_of-out c = simp length-set (put_length (put_then c.put_number-a.ensures c.put_number-b.ensures))

pub returns : goal.returns
unfolding node_line
returns c = rw c.letter_of.ensures (put_two (put_then c.put_number-a.ensures c.put_number-b.ensures) _ 10)
