-- `showing::put_text`. Assumes nothing.
use Rattle.showing.proofs.Holding.{shown_text}
use Rattle.showing.proofs.put_text.Goals as goal

pub returns : goal.returns
returns c =
    shown_text c.args.memory.now c.args.talk _ _ c.text-used.ensures c.holding.ensures
