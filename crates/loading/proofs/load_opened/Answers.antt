-- `load_opened` meets its contract: 7, then the story in the first q entries. Assumes nothing.
use mathlib.Core.Path.{sym, ◌∙◌}
use Rattle.families.specs.Loading.{lends}
use Rattle.loading.specs.Outcomes.{lent}
use Rattle.loading.proofs.Loads.{load_short, load_story}
use Rattle.loading.proofs.load_opened.Goals as goal

pub returns-then-not-lends_all : goal.returns-then-not-lends_all
returns-then-not-lends_all c = rw c.refuse.ensures (load_short _ _ _ (lent c.args.gene_parents.now c.args.gene_taxa.now c.args.places.now c.args.labels.now) c.requires.opens (rw (← c.requires.genes) (unfold lends in sym c.lends_all.ensures ∙ c.if-not-lends_all.true)))

pub returns : goal.returns
unfolding lends
returns c =
    load_story _ _ _ (lent c.args.gene_parents.now c.args.gene_taxa.now c.args.places.now c.args.labels.now) c.requires.opens (rw (← c.requires.genes) (sym c.lends_all.ensures ∙ c.if-not-lends_all.false)) _ _ c.requires.genes c.load_genes.ensures
