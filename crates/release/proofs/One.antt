-- One answer only: any two results that meet the contract of this crate are equal. Assumes nothing.
use Prim.Native.Nat.{ℕ}
use mathlib.Core.List.{List}
use Rattle.trees.specs.One.{Single}
use Rattle.trees.specs.Spots.{species_spot}
use Rattle.trees.proofs.One.{single_view}
use Rattle.trees.proofs.Spots.{species_spot_one}
use Rattle.release.specs.Promises.{FirstDifferenceMeets}

pub first_difference_one : (image : List ℕ) (i : ℕ) (parents taxa : List ℕ) → Single (FirstDifferenceMeets image i parents taxa)
first_difference_one image i parents taxa = single_view species_spot species_spot_one _
