-- `printing::put_refused`: eight bytes in a row. Assumes nothing.
use mathlib.Core.Path.{refl, sym}
use lib.Seq.{sets-eq}
use Rattle.printing.specs.Printing.{refused_word}
use Rattle.printing.proofs.put_refused.Goals as goal

pub returns : goal.returns
unfolding refused_word
returns c = record { content = rw c.copy_from_slice.ensures.after (sym (sets-eq refused_word c.args.out.now 0 c.requires)); place = refl }
