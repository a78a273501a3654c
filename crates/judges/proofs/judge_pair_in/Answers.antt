-- `judges::judge_pair_in`. Assumes nothing.
use mathlib.Core.Path.{◌≡◌, sym, ap, ◌∙◌}
use lib.Dec.{T}
use Rattle.trees.specs.Rulings.{verdict, accepted, refused_by, fine}
use Rattle.trees.specs.Rules.{sized, species_rules}
use Rattle.trees.specs.Tables.{pair_of}
use Rattle.trees.proofs.Bools.{true_T}
use Rattle.trees.specs.Answers.{judged_of}
use Rattle.judges.proofs.Shapes.{pair_species, species_here, pair_1, pair_family}
use borrow.Author.Rules.{rules}
use Rattle.trees.proofs.Answers.{refused_on}
use Rattle.judges.proofs.judge_pair_in.Goals as goal

pub returns-in_err-judge_species_in : goal.returns-in_err-judge_species_in
returns-in_err-judge_species_in c = refused_on _ c.from_residual.ensures.1 (sym (pair_species (pair_of c.args.trees.now) _ _ _ (sym c.in_err-judge_species_in.ensures)))

pub returns-then-not-sized_tables : goal.returns-then-not-sized_tables
returns-then-not-sized_tables c =
    let species-fine : verdict (species_rules c.args.trees.now.species.parents.now c.args.trees.now.species.taxa.now) ≡ accepted fine = sym c.in_ok-judge_species_in.ensures in ap refused_by c.refuse.ensures ∙ sym (pair_1 (pair_of c.args.trees.now) species-fine (sym c.sized_tables.ensures ∙ c.if-not-sized_tables.true))

pub judge_genes-requires : goal.judge_genes-requires
judge_genes-requires c =
    let species-fine : verdict (species_rules c.args.trees.now.species.parents.now c.args.trees.now.species.taxa.now) ≡ accepted fine = sym c.in_ok-judge_species_in.ensures in
    let sized-here : T (sized c.args.trees.now.genes.parents.now c.args.trees.now.genes.taxa.now) = true_T (sym c.sized_tables.ensures ∙ c.if-not-sized_tables.false) in (species_here (pair_of c.args.trees.now) species-fine, sized-here)

pub returns : goal.returns
returns c =
    let species-fine : verdict (species_rules c.args.trees.now.species.parents.now c.args.trees.now.species.taxa.now) ≡ accepted fine = sym c.in_ok-judge_species_in.ensures in
    let sized-here : T (sized c.args.trees.now.genes.parents.now c.args.trees.now.genes.taxa.now) = true_T (sym c.sized_tables.ensures ∙ c.if-not-sized_tables.false) in c.judge_genes.ensures ∙ sym (pair_family (pair_of c.args.trees.now) species-fine sized-here)
