-- `reading::read_tree`: the words of the parents, then those of the taxa. Assumes nothing.
use native.Mathlib.Omega.{arith}
use Rattle.std.proofs.lemmas.List.{map-id}
use Rattle.reading.proofs.Filling.{tree_short, tree_filled}
use Rattle.reading.proofs.read_tree.Goals as goal

pub returns-in_err-next : goal.returns-in_err-next
returns-in_err-next c = rw c.from_residual.ensures (tree_short c.args.text.now c.args.at c.read_table.new.table c.args.taxa.now c.in_err-next.ensures)

pub returns : goal.returns
returns c =
    let parents = c.read_table.new.table in
    let taxa = c.read_table-2.new.table in
    tree_filled _ _ parents taxa _ _ (omega (arith, c.requires.even)) (rw map-id at c.in_ok-next.ensures) (rw map-id at c.read_table-2.ensures)
