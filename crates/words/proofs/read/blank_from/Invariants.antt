-- `blank_from` meets its contract. The loop's invariant: the words from i to k are zero, so those from k on decide.
-- The measure is what is left of the words. Assumes nothing.
use Prim.Native.Nat.{◌-◌, ◌≤◌}
use mathlib.Core.Path.{◌≡◌}
use lib.ListN.{drop}
use Rattle.blocks.specs.Blocks.{content}
use Rattle.blocks.specs.Image.{blank}
use Rattle.words.proofs.read.blank_from.Given as goal

abbrev pub invariant-loop-k : goal.invariant-loop-k
invariant-loop-k l = (l.k ≤ l.n) × (blank (drop l.k (content l.image)) ≡ blank (drop l.i (content l.image)))

abbrev pub decreases-loop-k : goal.decreases-loop-k
decreases-loop-k l = l.n - l.k
