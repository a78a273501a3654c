-- `put` meets its contract. Assumes nothing.
use Rattle.std.proofs.Common.{◌≡◌, ◌+◌, ◌*◌, ◌∙◌, ap, arith}
use Rattle.words.specs.Words.{offset}
use Rattle.puts.proofs.Putting.{putting_start, putting_entry, putting_end, room_for}
use Rattle.puts.proofs.table.put.Goals as goal

pub loop-x-init : goal.loop-x-init
loop-x-init g c =
    let here : c.args.i + g.T.Entry.WORDS * 0 ≡ c.args.i = omega arith in
    (rw here c.offset_of-at.ensures, rw g.met.T.Put.laws.none (putting_start _ _))

pub put-at-requires : goal.put-at-requires
put-at-requires g c =
    (c.args.i + g.T.Entry.WORDS * c.loop-x.x-index, c.loop-x.invariant.0, room_for c.args.image.now c.args.i c.loop-x.image _ _ c.loop-x.x-index c.loop-x-test.true c.requires c.loop-x.auto.image)

pub loop-x-preserved : goal.loop-x-preserved
loop-x-preserved g c =
    let k = c.loop-x.x-index in
    let room = room_for c.args.image.now c.args.i c.loop-x.image g.T.Entry.WORDS _ k c.loop-x-test.true c.requires c.loop-x.auto.image in
    let behind : c.args.i + g.T.Entry.WORDS * k + g.T.Entry.WORDS ≡ c.args.i + g.T.Entry.WORDS * (k + 1) = omega arith in (
      c.put-at.ensures.next _ c.loop-x.invariant.0 ∙ ap offset behind,
      putting_entry _ c.args.i c.loop-x.image g.met.T.Put.laws c.args.table.now k _ c.x-item.result c.loop-x-test.true c.x-item.is c.loop-x.invariant.1 (c.put-at.ensures.put _ c.loop-x.invariant.0 room),
    )

pub returns : goal.returns
returns g c = putting_end _ c.args.i c.loop-x.image g.met.T.Put.laws _ c.loop-x.x-index c.loop-x-test.false c.loop-x.invariant.1
