-- `reading::read_counts`: each test passes its rule or is its refusal. Assumes nothing.
use native.Mathlib.Omega.{arith}
use mathlib.Core.Path.{◌≡◌, sym, ◌∙◌}
use borrow.Author.Rules.{rules}
use Rattle.std.specs.Prelude.{Err}
use Rattle.trees.proofs.Bools.{true_T}
use Rattle.reading.proofs.Counted.{read_some, read_none, count_long, count_first, count_second, count_species, count_genes, count_right}
use Rattle.reading.proofs.read_counts.Goals as goal

pub returns-then-text-gt49152 : goal.returns-then-text-gt49152
returns-then-text-gt49152 c = rw c.refuse-malformed.ensures (count_long _ c.if-text-gt49152.true)

pub returns-in_err-first : goal.returns-in_err-first
returns-in_err-first c =
    let none = read_none _ _ _ c.read_number.ensures c.in_err-first.ensures.ok_part in
    let e : c.from_residual.result ≡ Err c.refuse-malformed.result = search rules in
    rw (e, c.refuse-malformed.ensures) (count_first _ c.if-text-gt49152.false none)

pub read_number-requires-2 : goal.read_number-requires-2
read_number-requires-2 c =
    let first = read_some _ _ _ c.in_ok-first.first (omega arith) c.read_number.ensures c.in_ok-first.ensures.ok_part in
    omega (arith, first.inside)

pub returns-in_err-second : goal.returns-in_err-second
returns-in_err-second c =
    let first = read_some _ _ _ c.in_ok-first.first (omega arith) c.read_number.ensures c.in_ok-first.ensures.ok_part in
    let none = read_none _ _ _ c.read_number-2.ensures c.in_err-second.ensures.ok_part in
    let e : c.from_residual-in_err-second.result ≡ Err c.refuse-malformed.result = search rules in
    rw (e, c.refuse-malformed.ensures) (count_second _ c.if-text-gt49152.false _ _ first none)

pub returns-then-not-is_count : goal.returns-then-not-is_count
returns-then-not-is_count c =
    let first = read_some _ _ _ c.in_ok-first.first (omega arith) c.read_number.ensures c.in_ok-first.ensures.ok_part in
    let second = read_some _ _ _ _ first.inside c.read_number-2.ensures c.in_ok-second.ensures.ok_part in
    let no = sym c.is_count.ensures ∙ c.if-not-is_count.true in
    rw c.refuse.ensures (count_species _ c.if-text-gt49152.false _ _ first _ _ second no)

pub returns-then-not-is_count-2 : goal.returns-then-not-is_count-2
returns-then-not-is_count-2 c =
    let first = read_some _ _ _ c.in_ok-first.first (omega arith) c.read_number.ensures c.in_ok-first.ensures.ok_part in
    let second = read_some _ _ _ _ first.inside c.read_number-2.ensures c.in_ok-second.ensures.ok_part in
    let p_counted = true_T (sym c.is_count.ensures ∙ c.if-not-is_count.false) in
    let no = sym c.is_count-2.ensures ∙ c.if-not-is_count-2.true in
    rw c.refuse-then-not-is_count-2.ensures (count_genes _ c.if-text-gt49152.false _ _ first _ _ second p_counted no)

pub returns : goal.returns
returns c =
    let first = read_some _ _ _ c.in_ok-first.first (omega arith) c.read_number.ensures c.in_ok-first.ensures.ok_part in
    let second = read_some _ _ _ _ first.inside c.read_number-2.ensures c.in_ok-second.ensures.ok_part in
    let p_counted = true_T (sym c.is_count.ensures ∙ c.if-not-is_count.false) in
    let q_counted = true_T (sym c.is_count-2.ensures ∙ c.if-not-is_count-2.false) in
    count_right _ c.if-text-gt49152.false _ _ first _ _ second p_counted q_counted
