-- `load_genes` meets its contract: the tables are read, judged, and cleared where they are refused. Assumes nothing.
use mathlib.Core.Path.{sym, ap, ◌∙◌}
use Rattle.offers.specs.Answers.{offered_of}
use Rattle.loading.specs.Outcomes.{lent}
use Rattle.loading.proofs.Stories.{tables_room, read_tellable, told_load, cleared_load}
use Rattle.loading.proofs.load_genes.Goals as goal

pub read_genes-requires : goal.read_genes-requires
read_genes-requires c = tables_room _ _ _ (lent c.args.gene_parents.now c.args.gene_taxa.now c.args.places.now c.args.labels.now) c.requires

pub judge_story-requires : goal.judge_story-requires
judge_story-requires c = read_tellable _ _ _ (lent c.args.gene_parents.now c.args.gene_taxa.now c.args.places.now c.args.labels.now) c.requires _ c.read_genes.ensures

pub returns-in-Ok : goal.returns-in-Ok
returns-in-Ok c =
    told_load _ _ _ (lent c.args.gene_parents.now c.args.gene_taxa.now c.args.places.now c.args.labels.now) c.requires _ c.read_genes.ensures _ (sym c.judge_story.ensures ∙ ap offered_of c.in-Ok.is)

pub returns-in-Err : goal.returns-in-Err
returns-in-Err c =
    cleared_load _ _ _ (lent c.args.gene_parents.now c.args.gene_taxa.now c.args.places.now c.args.labels.now) c.requires _ c.read_genes.ensures _ _ _ _ (sym c.judge_story.ensures ∙ ap offered_of c.in-Err.is) c.clear_genes.ensures
