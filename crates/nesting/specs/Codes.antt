-- Private to the quick test: where each gene node's place lies in its parent's place's run, and what that tells; nothing of it is
-- part of a promise.
--   ahead_of a b              == how far position a lies after b, among 65,536 in a ring: a position before b is very far after it
--   side_code_lem d t         == 0 at a node's own position, 1 before its turn t, 2 from there on; d is how far after the node's
--   far_of gp pl start c      == how far the place of c lies after its parent's place
--   child_code gp pl start turn c == the code of c's side of its parent's place
--   Codable .. sides          <-> what looking at all gene nodes needs; no code is added up yet
--   Coding .. c sides         <-> the gene nodes below c lie inside their parents' places' runs, and their codes are added up
--   Coded .. sides            <-> all of them
--   SplitAt lb sides g        <-> if g is a speciation, its children's codes add up to 3
--   Spread gp pl lb ..        <-> all lie inside, and the codes of every speciation's children add up to 3
--   Nests sp gp pl lb         <-> rules 10 and 11 hold everywhere
-- Assumes nothing.
use Rattle.std.specs.Prelude.{ℕ, ◌+◌, ◌-◌, ◌*◌, ◌%◌, ◌≤◌, ◌<◌, ◌≡◌, List, length, get_or, eqb, ltb}
use Rattle.trees.specs.Lists.{range, keep_if, total, pick}
use Rattle.trees.specs.Trees.{up, Below, kid}
use Rattle.trees.specs.Sound.{Treelike}
use Rattle.histories.specs.Legal.{Apart}

unfoldable pub ahead_of : ℕ → ℕ → ℕ
ahead_of a b = (65536 + a - b) % 65536

unfoldable pub side_code_lem : ℕ → ℕ → ℕ
side_code_lem d t = pick (eqb d 0) 0 (pick (ltb d t) 1 2)

abbrev pub far_of : List ℕ → List ℕ → List ℕ → ℕ → ℕ
far_of gp pl start c = ahead_of (get_or start (get_or pl c 0) 0) (get_or start (get_or pl (get_or gp c 0) 0) 0)

abbrev pub child_code : List ℕ → List ℕ → List ℕ → List ℕ → ℕ → ℕ
child_code gp pl start turn c = side_code_lem (far_of gp pl start c) (get_or turn (get_or pl (get_or gp c 0) 0) 0)

pub record Codable (gp pl start run turn sides : List ℕ) : Type 0 where
  pub genes : Treelike gp
  pub room : length gp ≤ length pl
  pub started : (g : ℕ) → g < length gp → get_or pl g 0 < length start
  pub running : (g : ℕ) → g < length gp → get_or pl g 0 < length run
  pub turning : (g : ℕ) → g < length gp → get_or pl g 0 < length turn
  pub sides_room : length gp ≤ length sides
  pub zeros : (g : ℕ) → g < length gp → get_or sides g 0 ≡ 0

pub record Coding (gp pl start run turn : List ℕ) (c : ℕ) (sides : List ℕ) : Type 0 where
  pub sides_room : length gp ≤ length sides
  pub small : (g : ℕ) → g < length gp → get_or sides g 0 ≤ 2 * c
  pub within : (k : ℕ) → k < c → get_or gp k 0 < length gp → far_of gp pl start k < get_or run (get_or pl (get_or gp k 0) 0) 0
  pub at : (g : ℕ) → g < length gp → get_or sides g 0 ≡ total (child_code gp pl start turn) (keep_if (λ j. eqb (up gp j) g) (range 0 c))

abbrev pub Coded : List ℕ → List ℕ → List ℕ → List ℕ → List ℕ → List ℕ → Type 0
Coded gp pl start run turn sides = Coding gp pl start run turn (length gp) sides

abbrev pub SplitAt : List ℕ → List ℕ → ℕ → Type 0
SplitAt lb sides g = get_or lb g 0 ≡ 1 → get_or sides g 0 ≡ 3

pub record Spread (gp pl lb start run turn : List ℕ) : Type 0 where
  pub sides : List ℕ
  pub coded : Coded gp pl start run turn sides
  pub split : (g : ℕ) → g < length gp → SplitAt lb sides g

pub record Nests (sp gp pl lb : List ℕ) : Type 0 where
  pub descent : (c : ℕ) → c < length gp → up gp c < length gp → Below sp (get_or pl (up gp c) 0) (get_or pl c 0)
  pub sides : (g : ℕ) → g < length gp → get_or lb g 0 ≡ 1 → Apart sp (get_or pl g 0) (get_or pl (kid gp g 0) 0) (get_or pl (kid gp g 1) 0)
