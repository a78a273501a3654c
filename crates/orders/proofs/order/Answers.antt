-- `orders::order`: the nodes passed have positions. Assumes nothing.
use mathlib.Core.Path.{sym}
use lib.ListN.{length}
use borrow.Author.Count.{below_none, below_more}
use Rattle.trees.specs.Rules.{reaching}
use Rattle.trees.proofs.Bools.{true_T}
use Rattle.trees.proofs.Lists.{lowest_is, lowest_none}
use Rattle.orders.proofs.Orders.{listing_start, all_ordered}
use Rattle.orders.proofs.Noting.{way_has}
use borrow.Author.Rules.{rules}
use Rattle.orders.proofs.order.Goals as goal

pub loop-i-init : goal.loop-i-init
loop-i-init c = (listing_start c.requires, below_none _, below_none _)

pub list_way-c-requires : goal.list_way-c-requires
list_way-c-requires c = record { listing = c.loop-i.invariant.0; way_size = search rules; noted = (rw c.in-Some.is at c.note_way.ensures).noted }

pub loop-i-preserved : goal.loop-i-preserved
loop-i-preserved c =
    let l = c.loop-i in
    let w = rw c.in-Some.is at c.note_way.ensures in
    let d = c.list_way-c.ensures in (
      d.listing,
      below_more _ _ (λ x h. d.stay x (l.invariant.1 x h)) (way_has w d),
      below_more _ _ l.invariant.2 (true_T (sym w.ends)),
    )

pub returns-in_default : goal.returns-in_default
returns-in_default c =
    let l = c.loop-i in
    let par = c.args.parents.now in
    let w = rw c.in_default.is at c.note_way.ensures in
    let e = lowest_is (reaching par) (length par) l.i (search rules) (sym w.ends) l.invariant.2 in
    record { answer = (search rules, sym e); ordered = tt }

pub returns : goal.returns
returns c =
    let p = c.requires in
    let l = c.loop-i in
    record { answer = sym (lowest_none _ _ (λ x h. l.invariant.2 x (search rules))); ordered = all_ordered l.invariant.0 (λ x h. l.invariant.1 x (search rules)) p.some }
