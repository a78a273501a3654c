-- `put_zeros` meets its contract. Assumes nothing.
use Prim.Native.Nat.{◌+◌, ◌<◌}
use native.Mathlib.Omega.{arith}
use native.Mathlib.Nat.{add-zero}
use lib.ListN.{length}
use Rattle.words.proofs.Tables.{word_behind, word_in}
use Rattle.puts.proofs.Putting.{putting_start, putting_zero}
use Rattle.puts.proofs.table.put_zeros.Goals as goal

pub loop-init : goal.loop-init
loop-init c = (rw add-zero c.offset_of-at.ensures, putting_start _ _)

pub put_word-requires : goal.put_word-requires
put_word-requires c =
    let inside : c.loop.at + 1 < length c.args.image.now = word_in c.args.image.now _ c.loop.at (omega arith) c.loop.invariant.0 in
    rw c.loop.invariant.1.same inside

pub next-at-requires : goal.next-at-requires
next-at-requires c =
    let inside : c.loop.at + 1 < length c.args.image.now = word_in c.args.image.now _ c.loop.at (omega arith) c.loop.invariant.0 in
    omega (arith, inside)

pub loop-preserved : goal.loop-preserved
loop-preserved c = (
  word_behind c.args.i c.loop.counter _ _ c.loop.invariant.0 c.next-at.ensures,
  putting_zero _ c.args.i c.loop.image _ c.loop.counter _ c.loop.invariant.1 c.loop.invariant.0 c.put_word.ensures,
)
