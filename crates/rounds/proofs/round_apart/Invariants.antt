-- `rounds::round_apart`: the nodes passed are told apart. Assumes nothing.
use Prim.Native.Nat.{ℕ, ◌-◌, ◌≤◌, ◌<◌}
use mathlib.Core.Path.{◌≡◌}
use lib.ListN.{length}
use Rattle.rounds.specs.Rounds.{Apart}
use Rattle.rounds.proofs.round_apart.Given as goal

abbrev pub invariant-loop-j : goal.invariant-loop-j
invariant-loop-j l = ((k : ℕ) → l.from ≤ k → k < l.j → Apart l.species_taxa l.hints l.to k)
