-- `hints::ask`: what is left to probe finds what all probes find. Assumes nothing.
use Prim.Native.Nat.{◌+◌, ◌-◌}
use native.Mathlib.Omega.{arith}
use mathlib.Core.Path.{◌≡◌, refl, sym, ◌∙◌}
use borrow.Author.Tests.{eq-eqb, ne_eqb}
use Rattle.trees.proofs.Slots.{slot_below}
use Rattle.hints.specs.Hints.{slot_of_lem, ask_of}
use Rattle.hints.proofs.Asked.{probe_turn, probe_none, probed_empty, probed_hit, probed_next}
use borrow.Author.Rules.{rules}
use Rattle.hints.proofs.ask.Goals as goal

pub overflow_add-at-end : goal.overflow_add-at-end
overflow_add-at-end c = omega (arith, c.slot_of-slot.ensures, slot_below c.args.taxon 512 (omega arith))

pub loop-at-init : goal.loop-at-init
unfolding ask_of
loop-at-init c =
    let t = c.args.taxon in
    let s : c.slot_of-slot.result ≡ slot_of_lem t = c.slot_of-slot.ensures in
    let d : c.slot_of-slot.result + 512 - c.slot_of-slot.result ≡ 512 = omega arith in
    (search rules, omega (arith, slot_below t 512 (omega arith)), rw (d, s) refl)

pub returns-then-hint-eq0 : goal.returns-then-hint-eq0
returns-then-hint-eq0 c =
    let l = c in
    sym (probed_empty _ _ _ _ (eq-eqb _ 0 c.if-hint-eq0.true)) ∙ probe_turn _ _ _ _ l.loop-at.at _ (search rules) l.loop-at.invariant.2

pub returns-then-hits_at : goal.returns-then-hits_at
returns-then-hits_at c =
    let h = c in
    let l = h in
    sym (probed_hit _ _ _ _ (ne_eqb _ 0 h.if-hint-eq0.false) (sym h.hits_at.ensures ∙ c.if-hits_at.true)) ∙ probe_turn _ _ _ _ l.loop-at.at _ (search rules) l.loop-at.invariant.2

pub loop-at-preserved : goal.loop-at-preserved
loop-at-preserved c =
    let h = c in
    let l = h in
    (search rules, search rules, sym (probed_next _ _ _ _ (ne_eqb _ 0 h.if-hint-eq0.false) (sym h.hits_at.ensures ∙ c.if-hits_at.false)) ∙ probe_turn _ _ _ _ l.loop-at.at _ (search rules) l.loop-at.invariant.2)

pub returns : goal.returns
returns c = let l = c in sym (probe_none _ _ _ _ l.loop-at.at (omega arith)) ∙ l.loop-at.invariant.2
