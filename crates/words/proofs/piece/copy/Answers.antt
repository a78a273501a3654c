-- `copy` meets its contract. Assumes nothing.
use Rattle.std.proofs.Common.{◌*◌, length, arith}
use Rattle.blocks.proofs.Halves.{length_joined}
use Rattle.words.proofs.Tables.{filling_start, filling_more}
use Rattle.words.proofs.Entries.{entry_piece}
use Rattle.words.proofs.piece.copy.Goals as goal

pub loop-k-init : goal.loop-k-init
loop-k-init g c = filling_start _ _ (g.met.T.Entry.laws.many (length c.args.out.now) _ (length_joined 256 (g.T.Entry.WORDS * length c.args.out.now) c.args.bytes.now c.requires))

pub loop-k-preserved : goal.loop-k-preserved
loop-k-preserved g c =
    filling_more _ _ c.loop-k.out c.loop-k.k _ c.loop-k.invariant (omega arith) (entry_piece g.met.T.Entry.laws c.args.bytes.now c.loop-k.k _ c.nth.ensures)
