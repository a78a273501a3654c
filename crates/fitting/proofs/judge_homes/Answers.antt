-- `fitting::judge_homes`. Assumes nothing.
use Rattle.homes.specs.Promises.{Homeable}
use borrow.Author.Rules.{rules}
use Rattle.fitting.proofs.judge_homes.Goals as goal

pub judge_each-requires : goal.judge_each-requires
judge_each-requires c = λ g h.
    let a : Homeable c.args.species_taxa.now c.args.gene_taxa.now c.args.places.now g = record { inside = h; room = search rules; place = c.requires.inside _ h } in
    search rules
