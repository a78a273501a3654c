-- What each call promises, of the bytes handed in and the number answered.
--   PanheronRefusalMeets image parents taxa r <-> r is the number of the refusal, or 0; PanheronTreeMeets, PanheronPlaceMeets: its tree and place
--   PanheronDuplicationsMeets image parents taxa r <-> r is the duplications of the stored history, or 0; PanheronLossesMeets: its losses
--   PanheronHistoryMeets, PanheronHistoryTreeMeets, PanheronHistoryPlaceMeets <-> what the rack's calls of the least history promise, said
--                                                                              there
-- Assumes nothing.
use Rattle.std.specs.Prelude.{ℕ, ◌≡◌, List}
use Rattle.trees.specs.Tables.{Pair}
use Rattle.rack.specs.Rack.{number_in, tree_in, place_in}
use Rattle.rack.specs.Promises.{HistoryMeets, HistoryTreeMeets, HistoryPlaceMeets}
use Rattle.collector.specs.Host.{host_ruling, duplications_in, losses_in}

abbrev pub PanheronRefusalMeets : List ℕ → List ℕ → List ℕ → ℕ → Type 0
PanheronRefusalMeets image parents taxa r = r ≡ number_in (host_ruling image parents taxa)

abbrev pub PanheronTreeMeets : List ℕ → List ℕ → List ℕ → ℕ → Type 0
PanheronTreeMeets image parents taxa r = r ≡ tree_in (host_ruling image parents taxa)

abbrev pub PanheronPlaceMeets : List ℕ → List ℕ → List ℕ → ℕ → Type 0
PanheronPlaceMeets image parents taxa r = r ≡ place_in (host_ruling image parents taxa)

abbrev pub PanheronDuplicationsMeets : List ℕ → List ℕ → List ℕ → ℕ → Type 0
PanheronDuplicationsMeets image parents taxa r = r ≡ duplications_in (host_ruling image parents taxa)

abbrev pub PanheronLossesMeets : List ℕ → List ℕ → List ℕ → ℕ → Type 0
PanheronLossesMeets image parents taxa r = r ≡ losses_in (host_ruling image parents taxa)

abbrev pub PanheronHistoryMeets : Pair → List ℕ → List ℕ → List ℕ → ℕ → List ℕ → List ℕ → List ℕ → Type 0
PanheronHistoryMeets w p l c r p' l' c' = HistoryMeets w p l c r p' l' c'

abbrev pub PanheronHistoryTreeMeets : Pair → ℕ → Type 0
PanheronHistoryTreeMeets w r = HistoryTreeMeets w r

abbrev pub PanheronHistoryPlaceMeets : Pair → ℕ → Type 0
PanheronHistoryPlaceMeets w r = HistoryPlaceMeets w r
