-- `showing::put`. Assumes nothing.
use Rattle.showing.proofs.Holding.{put_room, put_full}
use Rattle.showing.proofs.put.Goals as goal

pub returns-then-used-lt4096 : goal.returns-then-used-lt4096
returns-then-used-lt4096 c = put_room c.args.memory.now c.args.used c.args.b c.if-used-lt4096.true

pub returns : goal.returns
returns c = put_full c.args.memory.now c.args.used c.args.b c.if-used-lt4096.false
