-- The tables of the least history: their lengths and entries. Assumes nothing.
use Prim.Native.Nat.{ℕ, ◌<◌}
use native.Mathlib.Omega.{arith}
use mathlib.Core.Path.{◌≡◌, ap, ◌∙◌}
use lib.ListN.{length, get_or}
use Rattle.trees.specs.Trees.{nodes}
use Rattle.trees.specs.Tables.{Pair}
use Rattle.trees.proofs.Lists.{length_range, get_or_range}
use Rattle.histories.specs.Places.{place}
use Rattle.histories.specs.Histories.{label, least_places, least_labels}

module _ (w : Pair) where
  pub length_places : length (least_places w) ≡ length w.gp
  unfolding least_places nodes
  length_places = length_range (place w) 0 (length w.gp)

  pub length_labels : length (least_labels w) ≡ length w.gp
  unfolding least_labels nodes
  length_labels = length_range (label w) 0 (length w.gp)

  pub get_or_places : (g : ℕ) → g < length w.gp → get_or (least_places w) g 0 ≡ place w g
  unfolding least_places nodes
  get_or_places g l = get_or_range (place w) 0 (length w.gp) g l ∙ ap (place w) (omega arith)

  pub get_or_labels : (g : ℕ) → g < length w.gp → get_or (least_labels w) g 0 ≡ label w g
  unfolding least_labels nodes
  get_or_labels g l = get_or_range (label w) 0 (length w.gp) g l ∙ ap (label w) (omega arith)
