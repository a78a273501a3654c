-- `text::answer_rest`: the tables are read and answered, or the text is malformed. Assumes nothing.
use borrow.Author.Rules.{rules}
use Rattle.trees.specs.Tables.{pair}
use Rattle.printing.proofs.Putting.{outcome_of}
use Rattle.text.proofs.Answered.{rest_refused, rest_answered}
use Rattle.text.proofs.answer_rest.Goals as goal

pub returns-then-not-read_tables : goal.returns-then-not-read_tables
returns-then-not-read_tables c =
    let r = c.read_tables.new in
    let w = pair r.species_parents r.species_taxa r.gene_parents r.gene_taxa in
    outcome_of _ c.write_refusal.ensures (rw c.refuse.ensures (rest_refused _ _ _ _ c.requires.read w (search rules) (search rules) _ c.read_tables.ensures c.if-not-read_tables.true))

pub returns : goal.returns
returns c =
    let r = c.read_tables.new in
    let w = pair r.species_parents r.species_taxa r.gene_parents r.gene_taxa in
    outcome_of _ c.answer_tables.ensures (rest_answered _ _ _ _ c.requires.read w (search rules) (search rules) _ c.read_tables.ensures c.if-not-read_tables.false)
