-- `taxa::Lookup::known_at`. Assumes nothing.
use mathlib.Core.Path.{sym, ◌∙◌}
use Rattle.taxa.proofs.Chains.{known_by}
use borrow.Author.Rules.{rules}
use Rattle.taxa.proofs.Lookup.known_at.Goals as goal

pub returns : goal.returns
returns g c = c.is_some.ensures ∙ sym (known_by _ _ _ (search rules) c.find.result c.find.ensures)
