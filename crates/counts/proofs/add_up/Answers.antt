-- `counts::add_up`: the sums over the nodes passed. Assumes nothing.
use Prim.Native.Nat.{◌+◌}
use native.Mathlib.Omega.{arith}
use mathlib.Core.Path.{refl, sym, ap₂, ◌∙◌}
use lib.ListN.{length}
use Rattle.trees.specs.Lists.{range, total}
use Rattle.trees.proofs.Lists.{total_more}
use Rattle.counts.proofs.Adding.{from_few, kinds_turn, part_fits}
use borrow.Author.Rules.{rules}
use Rattle.counts.proofs.add_up.Goals as goal

pub loop-c-init : goal.loop-c-init
unfolding total range
loop-c-init g c = (refl, refl, λ s A. refl, search rules, search rules)

pub overflow_add-climbs : goal.overflow_add-climbs
overflow_add-climbs g c =
    let s = c.requires.0 in
    let A = c.requires.1 in
    omega (arith, c.loop-c.invariant.2 s A, A.told _ _ (search rules) c.steps-climbs.ensures, part_fits s c.loop-c.c (length c.args.labels.now) (search rules), A.fits)

pub loop-c-preserved : goal.loop-c-preserved
loop-c-preserved g c =
    let l = c.loop-c in
    let i = l.invariant in
    let ls = c.args.labels.now in (
      kinds_turn ls 2 l.c i.0 c.from-duplications.ensures,
      kinds_turn ls 1 l.c i.1 c.from-speciations.ensures,
      λ s A. ap₂ ◌+◌ (i.2 s A) (A.told _ _ (search rules) c.steps-climbs.ensures) ∙ sym (total_more s l.c),
      omega (arith, from_few _ c.from-duplications.ensures),
      omega (arith, from_few _ c.from-speciations.ensures),
    )
