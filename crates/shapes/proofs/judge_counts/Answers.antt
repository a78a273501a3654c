-- `shapes::judge_counts`: the quick pass says that rules 3 and 4 hold, or each is judged node by node. Assumes nothing.
use native.Mathlib.Omega.{arith}
use mathlib.Core.Path.{sym, ◌∙◌}
use Rattle.trees.proofs.Bools.{true_T}
use Rattle.trees.proofs.Soundness.{sized_is}
use Rattle.trees.specs.Rules.{paired, marked}
use Rattle.shapes.specs.Counts.{paired_count}
use borrow.Author.Rules.{rules}
use Rattle.trees.proofs.Answers.{refused_on}
use Rattle.shapes.proofs.Shapes.{shape_wanted, refused_3, past_3}
use Rattle.shapes.proofs.Tests.{paired_same, marked_same}
use Rattle.shapes.proofs.judge_counts.Goals as goal

pub all_shaped-requires : goal.all_shaped-requires
all_shaped-requires c = let z = sized_is _ _ c.requires.0 in (omega (arith, c.requires.1.room, z.even), omega (arith, z.few, z.even))

pub returns-then-all_shaped : goal.returns-then-all_shaped
returns-then-all_shaped c = let z = sized_is _ _ c.requires.0 in sym (shape_wanted _ _ _ (λ k h. sym (c.requires.1.count k h) ∙ c.all_shaped.ensures (true_T c.if-all_shaped.true) k (omega (arith, z.even))))

pub judge_each-requires : goal.judge_each-requires
judge_each-requires c = λ i h. omega (arith, c.requires.1.room)

pub returns-in_err-judge_each : goal.returns-in_err-judge_each
unfolding paired_count
returns-in_err-judge_each c = refused_on _ c.from_residual.ensures.1 (sym (refused_3 _ _ _ _ _ _ (sym (c.in_err-judge_each.ensures (paired _) (λ i h b s. search rules ∙ paired_same c.requires.1 i h)))))

pub judge_each-requires-2 : goal.judge_each-requires-2
judge_each-requires-2 c = let room = c.requires.1.room in let even = (sized_is _ _ c.requires.0).even in λ i h. search rules

pub returns : goal.returns
returns c =
    c.judge_each-2.ensures (marked _ _) (λ i h b s. search rules ∙ marked_same c.requires.1 _ i h)
    ∙ sym (past_3 _ _ _ (sym (c.in_ok-judge_each.ensures (paired _) (λ i h b s. search rules ∙ paired_same c.requires.1 i h))))
