-- Private to the functions of this crate: nodes that have a position, so that parents come first. Nothing of it is part of a promise.
--   Has spots x               <-> x has a position
--   spot_over_lem par spots x == the position of the parent of x; none at the root
--   has_one spots x           == 1 if x has a position, else 0
--   Listing par c spots copy <-> c nodes have the positions below c, each its own; each with a parent has it before itself, and copy has
--                            the parents by position
--   Room par spots way        <-> what noting a way needs; each node with a position reaches the root
--   Noted .. k                <-> the first k entries of way go up from x, each to its parent; the last has no parent or one with a position
--   WayMeets .. r             <-> what noting a way leaves: it ends exactly if the node reaches the root
--   Next, Done                <-> what listing a node needs and leaves
--   Listable, Listed          <-> what listing a way needs and leaves
-- Assumes nothing.
use Rattle.std.specs.Prelude.{ℕ, ◌+◌, ◌≤◌, ◌<◌, ◌≡◌, ◌⊎◌, ◌≢◌, not, List, Option, is_some, IfSome, length, get_or, eqb, ltb}
use Rattle.trees.specs.Lists.{total, one, pick}
use Rattle.trees.specs.Trees.{none, up, nodes}
use Rattle.trees.specs.Rules.{reaching}
use Rattle.roots.specs.Ways.{Reaching, Entries}

abbrev pub Has : List ℕ → ℕ → Type 0
Has spots x = get_or spots x 0 ≢ none

unfoldable pub spot_over_lem : List ℕ → List ℕ → ℕ → ℕ
spot_over_lem par spots x = pick (ltb (up par x) (length par)) (get_or spots (up par x) 0) none

abbrev pub has_one : List ℕ → ℕ → ℕ
has_one spots x = one (not (eqb (get_or spots x 0) none))

pub record Listing (par : List ℕ) (c : ℕ) (spots copy : List ℕ) : Type 0 where
  pub entries : Entries par
  pub spots_size : length spots ≡ length par
  pub copy_size : length copy ≡ length par
  pub count : total (has_one spots) (nodes par) ≡ c
  pub low : (x : ℕ) → x < length par → Has spots x → get_or spots x 0 < c
  pub each : (k : ℕ) → k < c → (x : ℕ) × (x < length par) × (get_or spots x 0 ≡ k)
  pub one : (x y : ℕ) → x < length par → y < length par → Has spots x → get_or spots x 0 ≡ get_or spots y 0 → x ≡ y
  pub over : (x : ℕ) → x < length par → Has spots x → up par x < length par → get_or spots (up par x) 0 < get_or spots x 0
  pub copied : (x : ℕ) → x < length par → Has spots x → get_or copy (get_or spots x 0) 0 ≡ spot_over_lem par spots x
  pub reach : (x : ℕ) → x < length par → Has spots x → Reaching par x

pub record Room (par spots way : List ℕ) : Type 0 where
  pub entries : Entries par
  pub spots_size : length spots ≡ length par
  pub way_size : length way ≡ length par
  pub reach : (x : ℕ) → x < length par → Has spots x → Reaching par x

pub record Noted (par spots way : List ℕ) (k : ℕ) : Type 0 where
  pub few : k ≤ length par
  pub inside : (j : ℕ) → j < k → get_or way j 0 < length par
  pub next : (j : ℕ) → j + 1 < k → up par (get_or way j 0) ≡ get_or way (j + 1) 0
  pub last : (j : ℕ) → j + 1 ≡ k → (length par ≤ up par (get_or way j 0)) ⊎ Has spots (up par (get_or way j 0))

pub record WayMeets (par spots : List ℕ) (x : ℕ) (way : List ℕ) (r : Option ℕ) : Type 0 where
  pub ends : is_some r ≡ reaching par x
  pub noted : IfSome r (λ k. Noted par spots way k)
  pub first : IfSome r (λ k. Has spots x ⊎ ((0 < k) × (get_or way 0 0 ≡ x)))

pub record Next (par spots copy : List ℕ) (x c : ℕ) : Type 0 where
  pub listing : Listing par c spots copy
  pub inside : x < length par
  pub parent : (length par ≤ up par x) ⊎ Has spots (up par x)

pub record Done (par old : List ℕ) (x : ℕ) (spots copy : List ℕ) (c : ℕ) : Type 0 where
  pub listing : Listing par c spots copy
  pub stay : (y : ℕ) → Has old y → Has spots y
  pub has : Has spots x

pub record Listable (par spots copy way : List ℕ) (k c : ℕ) : Type 0 where
  pub listing : Listing par c spots copy
  pub way_size : length way ≡ length par
  pub noted : Noted par spots way k

pub record Listed (par old way : List ℕ) (k : ℕ) (spots copy : List ℕ) (c : ℕ) : Type 0 where
  pub listing : Listing par c spots copy
  pub stay : (x : ℕ) → Has old x → Has spots x
  pub first : 0 < k → Has spots (get_or way 0 0)
