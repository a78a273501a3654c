-- `judges::judge_family`. Assumes nothing.
use mathlib.Core.Path.{◌≡◌, sym, ap, ◌∙◌}
use Rattle.trees.specs.Rulings.{verdict, accepted, fine}
use Rattle.trees.specs.Rules.{shape_rules}
use Rattle.trees.specs.Tables.{pair_of}
use Rattle.trees.proofs.Bools.{true_T}
use Rattle.trees.specs.Answers.{judged_of}
use Rattle.judges.proofs.Leaves.{species_alone}
use Rattle.judges.proofs.Shapes.{family_shape, family_known, family_taxa}
use Rattle.trees.proofs.Answers.{refused_on}
use Rattle.judges.proofs.judge_family.Goals as goal

pub returns-in_err-judge_shape : goal.returns-in_err-judge_shape
returns-in_err-judge_shape c = refused_on _ c.from_residual.ensures.1 (sym (family_shape (pair_of c.args.trees.now) c.requires.0.tree c.requires.1 _ _ _ (sym c.in_err-judge_shape.ensures)))

pub returns-then-known : goal.returns-then-known
returns-then-known c =
    let shape-fine : verdict (shape_rules 2 c.args.trees.now.genes.parents.now c.args.trees.now.genes.taxa.now) ≡ accepted fine = sym c.in_ok-judge_shape.ensures in sym (family_known (pair_of c.args.trees.now) c.requires.0.tree c.requires.1 shape-fine (c.requires.2 (true_T c.if-known.true)))

pub judge_known-requires : goal.judge_known-requires
judge_known-requires c = species_alone c.requires.0

pub returns : goal.returns
returns c =
    let shape-fine : verdict (shape_rules 2 c.args.trees.now.genes.parents.now c.args.trees.now.genes.taxa.now) ≡ accepted fine = sym c.in_ok-judge_shape.ensures in c.judge_known.ensures ∙ sym (family_taxa (pair_of c.args.trees.now) c.requires.0.tree c.requires.1 shape-fine)
