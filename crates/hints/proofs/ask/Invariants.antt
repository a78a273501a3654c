-- `hints::ask`: what is left to probe finds what all probes find. Assumes nothing.
use Prim.Native.Nat.{◌+◌, ◌-◌, ◌<◌}
use mathlib.Core.Path.{◌≡◌}
use Rattle.hints.specs.Hints.{probe, ask_of}
use Rattle.hints.proofs.ask.Given as goal

abbrev pub invariant-loop-at : goal.invariant-loop-at
invariant-loop-at l = (l.at-end ≡ l.slot + 512) × (l.slot < 512) × (probe l.species_taxa l.hints l.taxon (l.at-end - l.at) l.at ≡ ask_of l.species_taxa l.hints l.taxon)
