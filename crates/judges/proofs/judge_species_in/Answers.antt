-- `judges::judge_species_in`. Assumes nothing.
use native.Mathlib.Omega.{arith}
use mathlib.Core.Path.{◌≡◌, sym, ap, ◌∙◌}
use Rattle.trees.specs.Rulings.{verdict, accepted, refused_by, fine}
use Rattle.trees.specs.Rules.{shape_rules}
use Rattle.trees.proofs.Bools.{true_T}
use Rattle.trees.proofs.Soundness.{sized_is}
use Rattle.trees.specs.Answers.{judged_of}
use Rattle.judges.proofs.Shapes.{species_1, species_shape, species_repeats}
use borrow.Author.Rules.{rules}
use Rattle.trees.proofs.Answers.{refused_on}
use Rattle.judges.proofs.judge_species_in.Goals as goal

pub returns-then-not-sized_tables : goal.returns-then-not-sized_tables
returns-then-not-sized_tables c = ap refused_by c.refuse.ensures ∙ sym (species_1 _ _ (sym c.sized_tables.ensures ∙ c.if-not-sized_tables.true))

pub judge_shape-shape-requires : goal.judge_shape-shape-requires
judge_shape-shape-requires c = true_T (sym c.sized_tables.ensures ∙ c.if-not-sized_tables.false)

pub returns-in_err-shape : goal.returns-in_err-shape
returns-in_err-shape c = refused_on _ c.from_residual.ensures.1 (sym (species_shape _ _ (true_T (sym c.sized_tables.ensures ∙ c.if-not-sized_tables.false)) _ _ _ (sym c.judge_shape-shape.ensures ∙ ap judged_of c.in_err-shape.was)))

pub judge_repeats-requires : goal.judge_repeats-requires
judge_repeats-requires c = let z = sized_is _ _ (true_T (sym c.sized_tables.ensures ∙ c.if-not-sized_tables.false)) in omega (arith, z.few, z.even)

pub returns : goal.returns
returns c =
    let shape-fine : verdict (shape_rules 1 c.args.species.now.parents.now c.args.species.now.taxa.now) ≡ accepted fine = sym c.judge_shape-shape.ensures ∙ ap judged_of c.in_ok-shape.was in c.judge_repeats.ensures ∙ sym (species_repeats _ _ (true_T (sym c.sized_tables.ensures ∙ c.if-not-sized_tables.false)) shape-fine)
