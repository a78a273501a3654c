-- The test of rule 7, as code makes it: one table after the other. Assumes nothing.
use Prim.Native.Nat.{ℕ, ◌≤◌, ◌<◌}
use mathlib.Core.Path.{◌≡◌}
use mathlib.Core.Bool.{false}
use mathlib.Core.List.{List}
use lib.ListN.{length}
use borrow.Author.Tests.{le-leb, lt-leb}
use Rattle.trees.specs.Tables.{Pair}
use Rattle.histories.specs.Rules.{roomy}

pub short_places : (w : Pair) (p l : List ℕ) → length p < length w.gp → roomy w p l ≡ false
unfolding roomy
short_places w p l h = rw (lt-leb (length w.gp) (length p) h)

pub short_labels : (w : Pair) (p l : List ℕ) → length w.gp ≤ length p → length l < length w.gp → roomy w p l ≡ false
unfolding roomy
short_labels w p l a h = rw (le-leb (length w.gp) (length p) a, lt-leb (length w.gp) (length l) h)
