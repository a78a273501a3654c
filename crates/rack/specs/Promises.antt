-- What each call promises, of the tables handed in and the number answered.
--   HistoryMeets w p l c r p' l' c' <-> the number r and the three tables as they are left are the outcome of the call
--   Short w r <-> private to the function `short_of_counts`: where counts has under four entries, r and the tables as they were are the
--                 outcome, whatever else they hold
--   HistoryTreeMeets w r, HistoryPlaceMeets w r <-> r is the tree, the place of the refusal of the four tables; 0 if they
--                                                                  are sound, also where the call refuses by 7
-- Assumes nothing.
use Rattle.std.specs.Prelude.{ℕ, ◌<◌, ◌≡◌, List, length}
use Rattle.trees.specs.Tables.{Pair}
use Rattle.trees.specs.Rulings.{verdict}
use Rattle.trees.specs.Rules.{pair_rules}
use Rattle.rack.specs.Rack.{RackOutcome, rack_outcome, tree_in, place_in}

abbrev pub HistoryMeets : Pair → List ℕ → List ℕ → List ℕ → ℕ → List ℕ → List ℕ → List ℕ → Type 0
HistoryMeets w p l c r p' l' c' = ◌≡◌ {A = RackOutcome} (record { number = r; places = p'; labels = l'; counts = c' }) (rack_outcome w p l c)

abbrev pub Short : Pair → ℕ → Type 0
Short w r = (p l c : List ℕ) → length c < 4 → HistoryMeets w p l c r p l c

abbrev pub HistoryTreeMeets : Pair → ℕ → Type 0
HistoryTreeMeets w r = r ≡ tree_in (verdict (pair_rules w))

abbrev pub HistoryPlaceMeets : Pair → ℕ → Type 0
HistoryPlaceMeets w r = r ≡ place_in (verdict (pair_rules w))
