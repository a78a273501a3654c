-- `passes::all_below`: nothing is noted exactly if the first entries are below the limit. Assumes nothing.
use mathlib.Core.Path.{◌≡◌}
use lib.Dec.{ltb, eqb→eq}
use lib.ListN.{take}
use borrow.Author.Tests.{eq-eqb}
use Rattle.std.specs.List.{fold}
use Rattle.std.proofs.Common.{rules}
use Rattle.std.proofs.iter.runs.Made.{chains}
use Rattle.trees.proofs.Bools.{true_T}
use Rattle.passes.proofs.Noting.{noting, noting_below}
use Rattle.passes.proofs.all_below.Goals as goal

pub returns : goal.returns
returns c =
    let a = c.args in
    let e : c.fold-wrong.result ≡ fold (noting (λ x. ltb x a.limit)) 0 (take a.q a.table.now) = search (rules, chains) in
    let N = noting_below a.table.now a.q a.limit (search rules) in
    rw e ((λ t. N.0 (eqb→eq _ 0 t)), (λ B. true_T (eq-eqb _ 0 (N.1 B))))
