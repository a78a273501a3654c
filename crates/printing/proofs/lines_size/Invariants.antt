-- `printing::lines_size`: the size so far is that of the lines passed. Assumes nothing.
use Prim.Native.Nat.{ℕ, ◌*◌, ◌≤◌}
use mathlib.Core.Path.{◌≡◌}
use mathlib.Core.List.{List}
use lib.ListN.{length}
use Rattle.histories.specs.Histories.{told}
use Rattle.printing.proofs.Lines.{lines_to}
use Rattle.printing.proofs.lines_size.Given as goal

abbrev pub invariant-loop-i : goal.invariant-loop-i
invariant-loop-i l =
    (l.size ≤ 44 * l.i) × ((labels : List ℕ) → l.size ≡ length (lines_to (told l.places labels) l.i))
