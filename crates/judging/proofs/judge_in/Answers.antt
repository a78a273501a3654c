-- `judging::judge_in`: the first q entries of tables that are long enough. Assumes nothing.
use Prim.Native.Nat.{◌≤◌}
use lib.ListN.{length, length-replicate, replicate}
use Rattle.loading.specs.Outcomes.{lent}
use Rattle.loading.proofs.Loads.{parts_loadable}
use borrow.Author.Rules.{rules}
use Rattle.judging.proofs.judge_in.Goals as goal

pub judge_stored-requires : goal.judge_stored-requires
judge_stored-requires g c =
    let room : c.args.q ≤ length (replicate g.row.N 0) = rw length-replicate c.requires.1 in
    parts_loadable _ _ _ _ (lent (replicate g.row.N 0) (replicate g.row.N 0) (replicate g.row.N 0) (replicate g.row.N 0)) c.requires.0 (record { gp = room; gt = room; places = room; labels = room })
