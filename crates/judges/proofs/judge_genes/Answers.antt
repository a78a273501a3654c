-- `judges::judge_genes`. Assumes nothing.
use mathlib.Core.Path.{sym, ap, ◌∙◌}
use Rattle.trees.specs.Tables.{pair_of}
use Rattle.trees.specs.Answers.{judged_of}
use Rattle.judges.proofs.Leaves.{species_alone}
use Rattle.judges.proofs.Shapes.{family_shape, family_taxa}
use borrow.Author.Rules.{rules}
use Rattle.trees.proofs.Answers.{refused_on}
use Rattle.judges.proofs.judge_genes.Goals as goal

pub returns-in_err-judge_shape : goal.returns-in_err-judge_shape
returns-in_err-judge_shape c = refused_on _ c.from_residual.ensures.1 (sym (family_shape (pair_of c.args.trees.now) c.requires.0.tree c.requires.1 _ _ _ (sym c.in_err-judge_shape.ensures)))

pub judge_known-requires : goal.judge_known-requires
judge_known-requires c = species_alone c.requires.0

pub returns : goal.returns
returns c = c.judge_known.ensures ∙ sym (family_taxa (pair_of c.args.trees.now) c.requires.0.tree c.requires.1 (sym c.in_ok-judge_shape.ensures))
