-- `collector::judge::refusal`. Assumes nothing.
use native.Mathlib.Omega.{arith}
use mathlib.Core.Path.{◌≡◌, sym, ap, ◌∙◌}
use mathlib.Core.Bool.{true}
use Rattle.trees.specs.Rulings.{refused_by}
use Rattle.judging.specs.Judging.{plain}
use Rattle.collector.specs.Host.{fits}
use Rattle.collector.proofs.Asking.{host_unfit, host_judged, host_long, fit_lengths}
use Rattle.collector.proofs.judge.refusal.Goals as goal

pub returns-then-not-fitting : goal.returns-then-not-fitting
returns-then-not-fitting c = ap refused_by c.no_tables.ensures ∙ ap plain (host_unfit _ _ _ (sym c.fitting.ensures ∙ c.if-not-fitting.true))

pub returns-then-n-gt2047 : goal.returns-then-n-gt2047
returns-then-n-gt2047 c =
    let fit : fits c.args.parents.now c.args.taxa.now ≡ true = sym c.fitting.ensures ∙ c.if-not-fitting.false in
    ap refused_by c.no_tables-then-n-gt2047.ensures ∙ ap plain (host_long _ _ _ fit c.if-n-gt2047.true)

pub judge_in-requires : goal.judge_in-requires
judge_in-requires c =
    let fit : fits c.args.parents.now c.args.taxa.now ≡ true = sym c.fitting.ensures ∙ c.if-not-fitting.false in
    let f = fit_lengths _ _ fit in
    (record { parents_size = f.0; taxa_size = f.1 }, c.if-n-le255.true, omega arith)

pub returns-then-n-le255 : goal.returns-then-n-le255
returns-then-n-le255 c =
    let fit : fits c.args.parents.now c.args.taxa.now ≡ true = sym c.fitting.ensures ∙ c.if-not-fitting.false in
    c.judge_in.ensures ∙ host_judged _ _ _ fit

pub judge_in-requires-2 : goal.judge_in-requires-2
judge_in-requires-2 c =
    let fit : fits c.args.parents.now c.args.taxa.now ≡ true = sym c.fitting.ensures ∙ c.if-not-fitting.false in
    let f = fit_lengths _ _ fit in
    (record { parents_size = f.0; taxa_size = f.1 }, c.if-n-gt2047.false, omega arith)

pub returns : goal.returns
returns c =
    let fit : fits c.args.parents.now c.args.taxa.now ≡ true = sym c.fitting.ensures ∙ c.if-not-fitting.false in
    c.judge_in-2.ensures ∙ host_judged _ _ _ fit
