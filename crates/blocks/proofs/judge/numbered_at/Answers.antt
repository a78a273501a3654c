-- `blocks::judge::numbered_at`. Assumes nothing.
use Rattle.std.proofs.Common.{sym, ◌∙◌}
use Rattle.blocks.proofs.Blocks.{numbered_part}
use Rattle.blocks.proofs.judge.numbered_at.Goals as goal

pub returns : goal.returns
returns c = sym (numbered_part c.args.image.now c.args.k _ (c.from.ensures ∙ c.word_at.ensures))
