-- `judging::judge_stored`: the tables are read and judged. Assumes nothing.
use mathlib.Core.Path.{ap, ◌∙◌}
use Rattle.trees.specs.Rulings.{verdict}
use Rattle.loading.specs.Outcomes.{lent}
use Rattle.loading.proofs.Stories.{tables_room, read_tellable}
use Rattle.judging.proofs.Judging.{read_rules}
use Rattle.judging.proofs.judge_stored.Goals as goal

pub read_genes-requires : goal.read_genes-requires
read_genes-requires c = tables_room _ _ _ (lent c.args.gene_parents.now c.args.gene_taxa.now c.args.places.now c.args.labels.now) c.requires

pub judge_tables-requires : goal.judge_tables-requires
judge_tables-requires c = read_tellable _ _ _ (lent c.args.gene_parents.now c.args.gene_taxa.now c.args.places.now c.args.labels.now) c.requires _ c.read_genes.ensures

pub returns : goal.returns
returns c = c.judge_tables.ensures ∙ ap verdict (read_rules _ _ _ (lent c.args.gene_parents.now c.args.gene_taxa.now c.args.places.now c.args.labels.now) c.requires _ c.read_genes.ensures)
