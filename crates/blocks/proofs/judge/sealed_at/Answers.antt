-- `blocks::judge::sealed_at`. Assumes nothing.
use Rattle.blocks.proofs.Blocks.{part_taken}
use Rattle.blocks.proofs.judge.sealed_at.Goals as goal

pub returns : goal.returns
returns c = rw (← part_taken c.args.image.now c.args.k) c.sealed.ensures
