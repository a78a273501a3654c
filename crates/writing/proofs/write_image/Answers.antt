-- `write_image` meets its contract: the offer is judged, the buffer measured, the image put. Assumes nothing.
use Prim.Native.Nat.{◌<◌}
use native.Mathlib.Omega.{arith}
use mathlib.Core.Path.{sym, ap, ◌∙◌}
use lib.ListN.{length}
use lib.Seq.{length-take-le}
use Rattle.trees.specs.Tables.{pair_of}
use Rattle.std.proofs.lemmas.Result.{err_from_is_err_and}
use Rattle.writing.proofs.Writes.{write_unoffered, sizes, rooms, write_short, part_room, write_done}
use Rattle.writing.proofs.write_image.Goals as goal

pub returns-in_err-judge_offer : goal.returns-in_err-judge_offer
returns-in_err-judge_offer c =
    let p = err_from_is_err_and c.from_residual.result c.from_residual.ensures.1 in
    rw (p.1, p.2) (write_unoffered (pair_of c.args.trees.now) _ _ _ _ _ _ (sym c.in_err-judge_offer.ensures))

pub image_size-n-requires : goal.image_size-n-requires
image_size-n-requires c =
    sizes _ _ _ c.args.image.now _ (sym c.in_ok-judge_offer.ensures)

pub returns-then-image-n : goal.returns-then-image-n
returns-then-image-n c =
    let short : length c.args.image.now < c.image_size-n.result = omega arith in
    rw c.refuse.ensures (write_short _ _ _ c.args.image.now _ (sym c.in_ok-judge_offer.ensures) _ c.image_size-n.ensures short)

pub slice_bounds-put_family-end : goal.slice_bounds-put_family-end
slice_bounds-put_family-end c =
    sym (length-take-le _ _ (rooms _ _ _ c.args.image.now _ (sym c.in_ok-judge_offer.ensures)).0)

pub slice_bounds-put_family-end-2 : goal.slice_bounds-put_family-end-2
slice_bounds-put_family-end-2 c =
    sym (length-take-le _ _ (rooms _ _ _ c.args.image.now _ (sym c.in_ok-judge_offer.ensures)).1)

pub put_family-requires : goal.put_family-requires
put_family-requires c =
    part_room _ _ _ c.args.image.now _ (sym c.in_ok-judge_offer.ensures) _ c.image_size-n.ensures c.if-image-n.false

pub returns : goal.returns
returns c =
    write_done _ _ _ c.args.image.now _ (sym c.in_ok-judge_offer.ensures) _ c.image_size-n.ensures c.if-image-n.false _ c.put_family.ensures
