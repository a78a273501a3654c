-- `read_table` meets its contract: of a spoiled talk the table has no entry, so that the loop makes no turn. Assumes nothing.
use Rattle.std.proofs.Common.{◌≡◌, refl, ap, arith}
use Rattle.dialogue.specs.declared.input.Found.{Found}
use Rattle.dialogue.proofs.input.read_table.Goals as goal

pub loop-place-init : goal.loop-place-init
loop-place-init g c = λ z. ap (λ (f : Found). f.talk) (c.small-head.ensures.spoiled z)

pub loop-place-preserved : goal.loop-place-preserved
loop-place-preserved g c = λ z.
    let none : c.small-head.result.value ≡ 0 = ap (λ (f : Found). f.value) (c.small-head.ensures.spoiled z) in
    absurd (omega (arith, rw none at c.loop-place-test.true))

pub returns-clause-spoiled : goal.returns-clause-spoiled
returns-clause-spoiled g c = λ z. rw (ap (λ (f : Found). f.value) (c.small-head.ensures.spoiled z), c.loop-place.invariant z) refl
