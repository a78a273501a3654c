-- `fitting::all_matching`: nothing is noted exactly if labels and taxa of the nodes passed go together. Assumes nothing.
use Prim.Native.Nat.{◌-◌, ◌≤◌}
use mathlib.Core.Path.{◌≡◌}
use lib.ListN.{length, get_or}
use Rattle.passes.proofs.Noting.{Noted}
use Rattle.fitting.specs.Passes.{Matching}
use Rattle.fitting.proofs.all_matching.Given as goal

abbrev pub invariant-loop-g : goal.invariant-loop-g
invariant-loop-g l = (l.wrong ≤ l.g) × Noted (λ k. Matching (get_or l.labels k 0) (get_or l.gene_taxa k 0)) l.g l.wrong
