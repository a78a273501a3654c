-- `taxa::ByTaxon::enter_all`: the nodes passed have taxa of their own and are in their chains. Assumes nothing.
use native.Mathlib.Omega.{arith}
use mathlib.Core.Path.{◌≡◌, sym, ap, ◌∙◌}
use lib.ListN.{length}
use borrow.Author.Count.{below_none, below_more}
use Rattle.trees.proofs.Bools.{true_T}
use Rattle.trees.specs.Rulings.{refused_by}
use Rattle.trees.proofs.Rulings.{one_refused, one_passed, refused_not}
use Rattle.taxa.specs.Searches.{fresh_taxon}
use borrow.Author.Rules.{rules}
use Rattle.taxa.proofs.ByTaxon.enter_all.Goals as goal

pub loop-i-init : goal.loop-i-init
loop-i-init g c = (below_none _, c.requires)

pub loop-i-preserved : goal.loop-i-preserved
loop-i-preserved g c =
    (below_more _ _ c.loop-i.invariant.0 (true_T (sym c.enter.ensures.test ∙ c.if-not-enter.false)), c.enter.ensures.chained (true_T c.if-not-enter.false))

pub returns-then-not-enter : goal.returns-then-not-enter
returns-then-not-enter g c =
    let n = one_refused 5 1 (length c.args.taxa.now) (fresh_taxon c.args.taxa.now) c.loop-i.i (search rules) (sym c.enter.ensures.test ∙ c.if-not-enter.true) c.loop-i.invariant.0 in
    let e = ap refused_by c.refuse.ensures in
    record { found = e ∙ sym n; chained = λ a. absurd (refused_not (sym a ∙ e)) }

pub returns : goal.returns
returns g c =
    let all : c.loop-i.i ≡ length c.args.taxa.now = search rules in
    record {
      found = sym (one_passed 5 1 _ _ (λ j h. c.loop-i.invariant.0 j (omega arith)));
      chained = λ l. rw all at c.loop-i.invariant.1;
    }
