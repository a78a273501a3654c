-- `counts::add_up`: the sums over the nodes passed. Assumes nothing.
use Prim.Native.Nat.{ℕ, ◌≤◌}
use mathlib.Core.Path.{◌≡◌}
use Rattle.trees.specs.Lists.{range, total}
use Rattle.counts.specs.Adding.{kinds_to, Addable}
use Rattle.counts.proofs.add_up.Given as goal

abbrev pub invariant-loop-c : goal.invariant-loop-c
invariant-loop-c g l = (l.duplications ≡ kinds_to l.labels 2 l.c) × (l.speciations ≡ kinds_to l.labels 1 l.c) × ((s : ℕ → ℕ) → Addable (goal.F-pre g l.steps) (goal.F-post g l.steps) l.labels s → l.climbs ≡ total s (range 0 l.c)) × (l.duplications ≤ l.c) × (l.speciations ≤ l.c)
