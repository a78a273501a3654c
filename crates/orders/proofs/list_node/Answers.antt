-- `orders::list_node`. Assumes nothing.
use Rattle.orders.proofs.Lists.{list_one, list_stays, list_has}
use Rattle.orders.proofs.list_node.Goals as goal

pub returns-then-spots-node : goal.returns-then-spots-node
returns-then-spots-node c = let p = c.requires in record { listing = p.listing; stay = λ y a. a; has = c.if-spots-node.true }

pub spot_over-requires : goal.spot_over-requires
spot_over-requires c = (c.requires.inside, c.requires.listing.spots_size)

pub returns : goal.returns
returns c =
    let p = c.requires in
    let e = c.if-spots-node.false in
    rw c.spot_over.ensures (record {
      listing = list_one p.listing _ p.inside e p.parent;
      stay = list_stays p.listing _ p.inside e p.parent;
      has = list_has p.listing _ p.inside e p.parent;
    })
