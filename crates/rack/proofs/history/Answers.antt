-- `rack::history`: each way out is the outcome of its rule. Assumes nothing.
use Prim.Native.Nat.{◌≤◌}
use native.Mathlib.Omega.{arith}
use lib.ListN.{length}
use Rattle.rack.proofs.Outcomes.{rack_refused, rack_done}
use Rattle.rack.proofs.history.Goals as goal

pub returns-in-Ok : goal.returns-in-Ok
returns-in-Ok c =
    let room : 4 ≤ length c.args.counts.now = omega arith in
    rack_done _ _ _ _ room _ _ _ _ _ c.least_history.ensures c.in-Ok.is c.put_counts.ensures

pub returns-in-Err : goal.returns-in-Err
returns-in-Err c =
    let room : 4 ≤ length c.args.counts.now = omega arith in
    rw c.from.ensures (rack_refused _ _ _ _ room _ _ _ _ c.least_history.ensures c.in-Err.is)
