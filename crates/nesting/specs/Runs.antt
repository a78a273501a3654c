-- Private to the quick test: positions of the nodes of a tree with parents first, so that a node and all below it have a run of positions that starts
-- with the node's own; nothing of it is part of a promise.
--   Unshared par off run turn <-> no run is shared out yet: each node's has length 1, for itself alone
--   Shared par i off run turn <-> the nodes from i on have their part of their parent's run: run j positions, off j after its start
--   Offsets par off           <-> off is where in its parent's run each node's own starts
--   Settling par i off start  <-> start is where each node's run starts, for the nodes below i; the others have what off has
--   Settled par off start     <-> all have it
--   Laid par start run turn   <-> what the runs give, node by node: a node's run lies in its parent's, after the parent's own position;
--                                 two children's runs have nothing in common; and each lies before or after the parent's turn
-- Assumes nothing.
use Rattle.std.specs.Prelude.{ℕ, ◌+◌, ◌≤◌, ◌<◌, ◌≡◌, ◌⊎◌, List, length, get_or}
use Rattle.trees.specs.Lists.{range, total}
use Rattle.trees.specs.Trees.{up}
use Rattle.trees.specs.First.{ParentsFirst}
use Rattle.trees.specs.Sound.{Treelike}

pub record Unshared (par off run turn : List ℕ) : Type 0 where
  pub tree : Treelike par
  pub first : ParentsFirst par
  pub off_room : length par ≤ length off
  pub run_room : length par ≤ length run
  pub turn_room : length par ≤ length turn
  pub top : get_or off 0 0 ≡ 0
  pub ones : (j : ℕ) → j < length par → get_or run j 0 ≡ 1

pub record Shared (par : List ℕ) (i : ℕ) (off run turn : List ℕ) : Type 0 where
  pub off_room : length par ≤ length off
  pub run_room : length par ≤ length run
  pub turn_room : length par ≤ length turn
  pub top : get_or off 0 0 ≡ 0
  pub some : (j : ℕ) → j < length par → 1 ≤ get_or run j 0
  -- the nodes that have no part yet have all positions among them
  pub sum : total (λ j. get_or run j 0) (range 0 i) ≡ length par
  pub after : (j : ℕ) → i ≤ j → j < length par → 1 ≤ get_or off j 0
  pub inside : (j : ℕ) → i ≤ j → j < length par → get_or off j 0 + get_or run j 0 ≤ get_or run (get_or par j 0) 0
  pub apart : (j k : ℕ) → i ≤ j → j < k → k < length par → get_or par k 0 ≡ get_or par j 0 → get_or off k 0 + get_or run k 0 ≤ get_or off j 0
  pub turned : (j : ℕ) → i ≤ j → j < length par → (get_or turn (get_or par j 0) 0 ≤ get_or off j 0) ⊎ (get_or off j 0 + get_or run j 0 ≤ get_or turn (get_or par j 0) 0)

abbrev pub Offsets : List ℕ → List ℕ → Type 0
Offsets par off = Treelike par × ((run : List ℕ) × (turn : List ℕ) × Shared par 1 off run turn) × ParentsFirst par

pub record Settling (par : List ℕ) (i : ℕ) (off start : List ℕ) : Type 0 where
  pub size : length start ≡ length off
  pub top : get_or start 0 0 ≡ 0
  pub at : (j : ℕ) → 0 < j → j < i → get_or start j 0 ≡ get_or start (get_or par j 0) 0 + get_or off j 0
  pub rest : (j : ℕ) → i ≤ j → get_or start j 0 ≡ get_or off j 0

abbrev pub Settled : List ℕ → List ℕ → List ℕ → Type 0
Settled par off start = Settling par (length par) off start

pub record Laid (par start run turn : List ℕ) : Type 0 where
  pub first : ParentsFirst par
  pub start_room : length par ≤ length start
  pub run_room : length par ≤ length run
  pub turn_room : length par ≤ length turn
  pub some : (j : ℕ) → j < length par → 1 ≤ get_or run j 0
  pub small : (j : ℕ) → j < length par → get_or start j 0 + get_or run j 0 ≤ 2047
  pub after : (j : ℕ) → 0 < j → j < length par → get_or start (up par j) 0 < get_or start j 0
  pub inside : (j : ℕ) → 0 < j → j < length par → get_or start j 0 + get_or run j 0 ≤ get_or start (up par j) 0 + get_or run (up par j) 0
  pub apart : (j k : ℕ) → 0 < j → j < k → k < length par → up par k ≡ up par j → get_or start k 0 + get_or run k 0 ≤ get_or start j 0
  pub turned : (j : ℕ) → 0 < j → j < length par
      → (get_or start (up par j) 0 + get_or turn (up par j) 0 ≤ get_or start j 0) ⊎ (get_or start j 0 + get_or run j 0 ≤ get_or start (up par j) 0 + get_or turn (up par j) 0)
