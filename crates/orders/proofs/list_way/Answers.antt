-- `orders::list_way`: the entries passed have positions, each after its parent. Assumes nothing.
use Prim.Native.Nat.{◌-◌}
use native.Mathlib.Omega.{arith}
use mathlib.Core.Path.{◌≡◌}
use Rattle.orders.proofs.Noting.{parent_listed}
use borrow.Author.Rules.{rules}
use Rattle.orders.proofs.list_way.Goals as goal

pub list_node-c-requires : goal.list_node-c-requires
list_node-c-requires c =
    let p = c.requires in
    let l = c.loop-j in
    record {
      listing = l.invariant.0;
      inside = p.noted.inside (l.j - 1) (search rules);
      parent = parent_listed l.spots (l.j - 1) l.j p.noted (search rules) (search rules) l.invariant.1 l.invariant.2;
    }

pub loop-j-preserved : goal.loop-j-preserved
loop-j-preserved c =
    let l = c.loop-j in
    let d = c.list_node-c.ensures in
    (d.listing, (λ x a. d.stay x (l.invariant.1 x a)), (λ h. d.has))

pub returns : goal.returns
returns c = let l = c.loop-j in record { listing = l.invariant.0; stay = l.invariant.1; first = λ h. let z : l.j ≡ 0 = search rules in rw z at (l.invariant.2 (omega arith)) }
