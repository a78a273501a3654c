-- `text::answer_sized`: four tables of the right sizes are lent. Assumes nothing.
use Rattle.text.proofs.Answered.{sized_ready}
use Rattle.text.proofs.answer_sized.Goals as goal

pub answer_rest-requires : goal.answer_rest-requires
answer_rest-requires c = sized_ready _ c.args.sizes.species c.args.sizes.genes _ c.requires
