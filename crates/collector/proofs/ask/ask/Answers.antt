-- `collector::ask`. Assumes nothing.
use Prim.Native.Nat.{◌*◌}
use native.Mathlib.Omega.{arith}
use mathlib.Core.Path.{◌≡◌, sym, ap, ◌∙◌}
use mathlib.Core.Bool.{true}
use lib.Seq.{length-take-le}
use Rattle.trees.specs.Rulings.{refused_by}
use Rattle.collector.specs.Host.{fits}
use Rattle.collector.proofs.Asking.{host_unfit, host_fit, host_long, fit_lengths}
use Rattle.collector.proofs.ask.ask.Goals as goal

pub returns-then-not-fitting : goal.returns-then-not-fitting
returns-then-not-fitting c = ap refused_by c.no_tables.ensures ∙ host_unfit _ _ _ (sym c.fitting.ensures ∙ c.if-not-fitting.true)

pub returns-then-n-gt2047 : goal.returns-then-n-gt2047
returns-then-n-gt2047 c =
    let fit : fits c.args.parents.now c.args.taxa.now ≡ true = sym c.fitting.ensures ∙ c.if-not-fitting.false in
    ap refused_by c.no_tables-then-n-gt2047.ensures ∙ host_long _ _ _ fit c.if-n-gt2047.true

pub on_bytes-requires : goal.on_bytes-requires
on_bytes-requires c =
    let fit : fits c.args.parents.now c.args.taxa.now ≡ true = sym c.fitting.ensures ∙ c.if-not-fitting.false in
    let f = fit_lengths _ _ fit in
    (f.0 ∙ ap (λ x. 2 * x) (sym (length-take-le _ _ (omega arith))), f.1 ∙ ap (λ x. 4 * x) (sym (length-take-le _ _ (omega arith))))

pub returns : goal.returns
returns c =
    let fit : fits c.args.parents.now c.args.taxa.now ≡ true = sym c.fitting.ensures ∙ c.if-not-fitting.false in
    c.on_bytes.ensures ∙ host_fit _ _ _ fit
