-- `reading::read_tables`: the words of the species tree, then those of the gene tree, then nothing. Assumes nothing.
use native.Mathlib.Omega.{arith}
use borrow.Author.Rules.{rules}
use Rattle.trees.specs.Tables.{pair}
use Rattle.reading.proofs.Rest.{species_short, genes_short, tables_read}
use Rattle.reading.proofs.read_tables.Goals as goal

pub returns-in_default : goal.returns-in_default
returns-in_default c =
    let s = c.read_tree.new in
    species_short _ _ (pair s.parents s.taxa c.args.gene_parents.now c.args.gene_taxa.now) c.in_default.ensures

pub returns-in_default-read_tree : goal.returns-in_default-read_tree
returns-in_default-read_tree c =
    let s = c.read_tree.new in
    let g = c.read_tree-2.new in
    genes_short _ _ (pair s.parents s.taxa g.parents g.taxa) _ c.in-Some.ensures c.in_default-read_tree.ensures

pub returns : goal.returns
returns c =
    let s = c.read_tree.new in
    let g = c.read_tree-2.new in
    let w = pair s.parents s.taxa g.parents g.taxa in
    rw c.skip_blanks.ensures (tables_read _ _ w _ c.in-Some.ensures _ c.in-Some-read_tree.ensures (search rules) (omega (arith, c.requires.gt_even)))
