-- `seal` meets its contract: number, sums, check. Assumes nothing.
use native.Mathlib.Omega.{arith}
use mathlib.Core.Path.{ap, ◌∙◌}
use Rattle.puts.specs.Puts.{stored}
use Rattle.puts.proofs.Sealing.{block_sealed}
use Rattle.puts.proofs.seal.seal.Goals as goal

pub returns : goal.returns
returns c =
    block_sealed c.args.k c.add_up-c.result.0 c.add_up-c.result.1 c.args.b.now c.put_word.new.s c.put_word-3.new.s c.requires c.put_word.ensures (c.put_word-3.ensures ∙ ap (λ l. stored l 510 c.add_up-c.result.1) c.put_word-2.ensures) (ap (λ t. t.a) c.add_up-c.ensures) (ap (λ t. t.b) c.add_up-c.ensures)
    (λ i. omega (arith, c.type_inv.b i))
