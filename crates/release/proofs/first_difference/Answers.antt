-- `first_difference` meets its contract: where both tables are the same no entry differs. Assumes nothing.
use Rattle.std.proofs.Common.{◌≡◌, ◌*◌, length, arith}
use Rattle.release.proofs.Comparing.{agree_all}
use Rattle.release.proofs.first_difference.Goals as goal

pub returns-then-same-2 : goal.returns-then-same-2
returns-then-same-2 c =
    let one : 1 * length c.args.species.now.parents.now ≡ length c.args.species.now.parents.now = omega arith in
    agree_all c.args.image.now c.args.i _ _ c.requires.even (rw one at (c.same.ensures c.if-same.true)) (c.same-then-same.ensures c.if-same-2.true)
