-- `roots::judge_parents`: the nodes passed obey rule 2, and it is known whether one is a root. Assumes nothing.
use mathlib.Core.Path.{refl, sym, ap, ◌∙◌}
use borrow.Author.Count.{below_none, below_more}
use Rattle.trees.specs.Lists.{range, any}
use Rattle.trees.specs.Trees.{is_root}
use Rattle.trees.specs.Rulings.{refused_by}
use Rattle.trees.proofs.Bools.{true_T}
use Rattle.roots.proofs.Parents.{parented_by, seen_more, parents_refused, parents_none, parents_passed}
use borrow.Author.Rules.{rules}
use Rattle.roots.proofs.judge_parents.Goals as goal

pub loop-i-init : goal.loop-i-init
unfolding any range
loop-i-init c = (search rules, search rules, refl, below_none _)

pub loop-i-preserved : goal.loop-i-preserved
loop-i-preserved c =
    let p = c in
    let l = p in (
      search rules,
      search rules,
      c.or_root-seen.ensures ∙ seen_more _ _ (search rules) _ l.loop-i.invariant.2,
      below_more _ _ l.loop-i.invariant.3 (true_T (sym (p.parented_at.ensures ∙ parented_by _ _ (search rules) _ l.loop-i.invariant.2) ∙ c.if-not-parented_at.false)),
    )

pub returns-then-not-parented_at : goal.returns-then-not-parented_at
returns-then-not-parented_at c =
    let p = c in
    let l = p in
    ap refused_by c.refuse.ensures ∙ sym (parents_refused _ _ _ (search rules) (sym (p.parented_at.ensures ∙ parented_by _ _ (search rules) _ l.loop-i.invariant.2) ∙ c.if-not-parented_at.true) l.loop-i.invariant.3)

pub returns-then-seen : goal.returns-then-seen
returns-then-seen c = let l = c in sym (parents_passed _ _ (λ k h. l.loop-i.invariant.3 k (search rules)) (ap (λ n. any (is_root l.args.parents.now) (range 0 n)) (search rules) ∙ sym l.loop-i.invariant.2 ∙ c.if-seen.true))

pub returns : goal.returns
returns c = let l = c in ap refused_by c.refuse-2.ensures ∙ sym (parents_none _ _ (λ k h. l.loop-i.invariant.3 k (search rules)) (ap (λ n. any (is_root l.args.parents.now) (range 0 n)) (search rules) ∙ sym l.loop-i.invariant.2 ∙ c.if-seen.false))
