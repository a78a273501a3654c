-- `seal_all` meets its contract. Assumes nothing.
use Rattle.puts.proofs.Sealing.{sealing_start, sealing_more}
use Rattle.puts.proofs.seal.seal_all.Goals as goal

pub loop-k-init : goal.loop-k-init
loop-k-init c = sealing_start _

pub loop-k-preserved : goal.loop-k-preserved
loop-k-preserved c =
    sealing_more c.args.image.now c.loop-k.image c.loop-k.k c.loop-k.invariant c.loop-k-test.true c.seal.new.b c.seal.ensures
