-- `sides::merge`. Assumes nothing.
use Prim.Native.Nat.{◌<◌}
use native.Mathlib.Omega.{arith}
use mathlib.Core.Path.{sym, ap, subst, ◌∙◌}
use Rattle.sides.specs.Visits.{merged, side_entry, SmallSide}
use Rattle.sides.proofs.Climbing.{merged_none, merged_first, merged_other}
use borrow.Author.Rules.{rules}
use Rattle.sides.proofs.merge.Goals as goal

pub returns-in_default : goal.returns-in_default
returns-in_default c = let a = c.args in merged_none a.seen ∙ sym (ap (λ r. merged a.seen (side_entry r)) c.in_default.is)

pub overflow_cast-s : goal.overflow_cast-s
overflow_cast-s c =
    let small : c.in-Some.node.0 < 65534 = subst SmallSide c.in-Some.is c.requires tt in omega (arith, small)

pub returns-then-seen-eq65534 : goal.returns-then-seen-eq65534
returns-then-seen-eq65534 c = let k = c in let a = k.args in merged_first a.seen _ c.if-seen-eq65534.true ∙ sym (ap (λ r. merged a.seen (side_entry r)) k.in-Some.is)

pub returns : goal.returns
returns c =
    let small : c.in-Some.node.0 < 65534 = subst SmallSide c.in-Some.is c.requires tt in let k = c in let a = k.args in merged_other a.seen _ c.if-seen-eq65534.false (search rules) (omega (arith, small)) ∙ sym (ap (λ r. merged a.seen (side_entry r)) k.in-Some.is)
