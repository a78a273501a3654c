-- `bytes_of` meets its contract: in a block the words stand two bytes apart. Assumes nothing.
use native.Mathlib.Omega.{arith}
use Rattle.words.proofs.Pieces.{piece_in, piece_taken}
use Rattle.words.proofs.at.bytes_of.Goals as goal

pub overflow_add-e : goal.overflow_add-e
overflow_add-e c = omega (arith, piece_in c.args.image.now c.args.i c.args.m c.requires.0 c.requires.1 c.requires.2, c.offset_of-a.ensures)

pub slice_bounds-result-end : goal.slice_bounds-result-end
slice_bounds-result-end c = omega (arith, piece_in c.args.image.now c.args.i c.args.m c.requires.0 c.requires.1 c.requires.2, c.offset_of-a.ensures)

pub returns : goal.returns
returns c = piece_taken c.args.image.now c.args.i c.args.m c.requires.0 c.requires.1 c.requires.2 _ c.offset_of-a.ensures
