-- `numbers::read_word`: what was read is digits, at most ten, and they spell the value so far. Assumes nothing.
-- The goal behind ten digits follows from the invariant without an answer, so none is named after the ten.
use native.Mathlib.Omega.{arith}
use mathlib.Core.Path.{◌≡◌, sym, ◌∙◌}
use lib.ListN.{length}
use Rattle.trees.proofs.Bools.{true_T}
use Rattle.numbers.specs.Numbers.{digit}
use Rattle.numbers.proofs.Digits.{digit_low}
use Rattle.numbers.proofs.Cursor.{opens_end, opens_blank}
use Rattle.numbers.proofs.Spelling.{spelled_none, spelled_small, spelled_end, spelled_odd, spelled_on, spelled_more}
use Rattle.numbers.proofs.read_word.Goals as goal

pub loop-i-init : goal.loop-i-init
loop-i-init c = (spelled_none _ _, spelled_on _ _ _ _ (spelled_none _ _))

pub returns-then-is_blank : goal.returns-then-is_blank
returns-then-is_blank c =
    let blank = sym c.is_blank.ensures ∙ c.if-is_blank.true in
    c.closed.ensures ∙ sym (spelled_end _ _ _ _ c.loop-i.invariant.0 (opens_blank _ c.loop-i.i (omega arith) blank))

pub returns-then-not-is_ascii_digit : goal.returns-then-not-is_ascii_digit
unfolding digit
returns-then-not-is_ascii_digit c =
    let solid = sym c.is_blank.ensures ∙ c.if-is_blank.false in
    let odd = sym c.is_ascii_digit.ensures.value ∙ c.if-not-is_ascii_digit.true in
    sym (spelled_odd _ _ _ _ c.loop-i.invariant.0 (omega arith) solid odd)

pub overflow_mul-value : goal.overflow_mul-value
overflow_mul-value c = omega (arith, spelled_small _ _ _ _ c.loop-i.invariant.0)

pub overflow_sub-byte : goal.overflow_sub-byte
unfolding digit
overflow_sub-byte c = digit_low _ (true_T (sym c.is_ascii_digit.ensures.value ∙ c.if-not-is_ascii_digit.false))

pub overflow_add-value : goal.overflow_add-value
overflow_add-value c = omega (arith, spelled_small _ _ _ _ c.loop-i.invariant.0)

pub loop-i-preserved : goal.loop-i-preserved
unfolding digit
loop-i-preserved c =
    let d = true_T (sym c.is_ascii_digit.ensures.value ∙ c.if-not-is_ascii_digit.false) in
    let more = rw (← c.from.ensures) at (spelled_more _ _ _ _ c.loop-i.invariant.0 (omega arith) d (omega arith)) in
    (more, spelled_on _ _ _ _ more)

pub returns : goal.returns
returns c =
    let end : c.loop-i.i ≡ length c.args.text.now = omega arith in
    c.closed-2.ensures ∙ sym (spelled_end _ _ _ _ (rw end at c.loop-i.invariant.0) (opens_end c.args.text.now _ (omega arith)))
