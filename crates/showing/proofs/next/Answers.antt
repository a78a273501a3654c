-- `showing::next`. Assumes nothing.
use mathlib.Core.Path.{ap, ◌∙◌}
use Rattle.showing.specs.Holding.{Held, put_bytes_lem}
use Rattle.showing.specs.Lines.{numeral}
use Rattle.showing.proofs.next.Goals as goal

pub returns : goal.returns
unfolding put_bytes_lem
returns c = c.decimal.ensures ∙ ap (λ (h : Held). put_bytes_lem h (numeral c.args.n)) c.put-held.ensures
