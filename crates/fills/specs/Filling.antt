-- Private to the fill of the least history: where it stands; nothing of it is part of a promise. It goes up from each gene leaf in turn; a node is finished when its second child
-- arrives. While it runs, a label of 3 says that no child has arrived at a node yet, and 4 that one has, whose place stands there.
--   Done l g          <-> g is finished: its label is a label
--   Arrived l v c     <-> c is finished and has told its parent; v is the node that is still to tell
--   Filling w k v p l <-> the leaves below k are finished, and so is every node whose children all are; all that is finished is right;
--                         the leaves from k on have their places
--   kind_of m a b     == the label of an inner node at m whose children sit at a and b
--   Kept q old new    <-> the entries behind the first q are as they were
--   Ready, Finished; Rising, Risen; Marked; Taking; FilledFrom
--                     <-> what the steps of the fill need and leave
--   Filled w p l      <-> every place and every label is the least history's
-- None of it asks how nodes are numbered. Assumes nothing.
use Rattle.std.specs.Prelude.{ℕ, ◌+◌, ◌≤◌, ◌<◌, ◌≡◌, ◌⊎◌, ◌≢◌, ◌||◌, List, length, get_or, set, drop, eqb}
use Rattle.trees.specs.Lists.{pick}
use Rattle.trees.specs.Trees.{none, up, Leaf, Inner, Meet}
use Rattle.trees.specs.Sound.{Treelike, Sound}
use Rattle.trees.specs.Tables.{Pair, home}
use Rattle.histories.specs.Places.{place}
use Rattle.histories.specs.Histories.{label}

abbrev pub Done : List ℕ → ℕ → Type 0
Done l g = get_or l g 0 ≤ 2

abbrev pub Arrived : List ℕ → ℕ → ℕ → Type 0
Arrived l v c = Done l c × (c ≢ v)

abbrev pub Told : Pair → List ℕ → List ℕ → ℕ → Type 0
Told w p l g = (get_or p g 0 ≡ place w g) × (get_or l g 0 ≡ label w g)

-- one child has arrived at g, and its place stands there
pub record Half (w : Pair) (v : ℕ) (p l : List ℕ) (g : ℕ) : Type 0 where
  pub child : ℕ
  pub inside : child < length w.gp
  pub parent : up w.gp child ≡ g
  pub arrived : Arrived l v child
  pub its_place : get_or p g 0 ≡ place w child
  pub alone : (c : ℕ) → c < length w.gp → up w.gp c ≡ g → Arrived l v c → c ≡ child

pub record Filling (w : Pair) (k v : ℕ) (p l : List ℕ) : Type 0 where
  pub places_room : length w.gp ≤ length p
  pub labels_room : length w.gp ≤ length l
  pub right : (g : ℕ) → g < length w.gp → Done l g → Told w p l g
  pub leaf_done : (g : ℕ) → g < length w.gp → Leaf w.gp g → g < k → Done l g
  pub leaf_fresh : (g : ℕ) → g < length w.gp → Leaf w.gp g → k ≤ g → get_or l g 0 ≡ 3
  pub leaf_place : (g : ℕ) → g < length w.gp → Leaf w.gp g → k ≤ g → get_or p g 0 ≡ home w g
  pub stage : (g : ℕ) → g < length w.gp → Inner w.gp g → Done l g ⊎ ((get_or l g 0 ≡ 3) ⊎ (get_or l g 0 ≡ 4))
  pub none_yet : (g : ℕ) → g < length w.gp → get_or l g 0 ≡ 3 → (c : ℕ) → c < length w.gp → up w.gp c ≡ g → Arrived l v c → ⊥
  pub half : (g : ℕ) → g < length w.gp → get_or l g 0 ≡ 4 → Half w v p l g
  pub both : (g : ℕ) → g < length w.gp → Done l g → (c : ℕ) → c < length w.gp → up w.gp c ≡ g → Arrived l v c
  pub told : v < length w.gp → Done l v

unfoldable pub kind_of : ℕ → ℕ → ℕ → ℕ
kind_of m a b = pick (eqb a m || eqb b m) 2 1

pub record Filled (w : Pair) (p l : List ℕ) : Type 0 where
  pub places_room : length w.gp ≤ length p
  pub labels_room : length w.gp ≤ length l
  pub right : (g : ℕ) → g < length w.gp → Told w p l g

pub record Kept (q : ℕ) (old new : List ℕ) : Type 0 where
  pub size : length new ≡ length old
  pub rest : drop q new ≡ drop q old

-- u's second child v is finished, and the other child's place stands at u
pub record Ready (sp p l : List ℕ) (u v : ℕ) : Type 0 where
  pub tree : Treelike sp
  pub few : length sp ≤ 2047
  pub u_place_in : u < length p
  pub v_place_in : v < length p
  pub u_label_in : u < length l
  pub first_place : get_or p u 0 < length sp
  pub second_place : get_or p v 0 < length sp

-- then u has the place where the two meet, and its label
pub record Finished (sp : List ℕ) (u v : ℕ) (p p' l l' : List ℕ) : Type 0 where
  pub at : ℕ
  pub meets : Meet sp (get_or p u 0) (get_or p v 0) at
  pub places : p' ≡ set p u at
  pub labels : l' ≡ set l u (kind_of at (get_or p u 0) (get_or p v 0))

-- the leaf k is finished and has not told its parent yet
pub record Rising (w : Pair) (k : ℕ) (p l : List ℕ) : Type 0 where
  pub sound : Sound w
  pub inside : k < length w.gp
  pub filling : Filling w (k + 1) k p l

pub record Risen (w : Pair) (k : ℕ) (p p' l l' : List ℕ) : Type 0 where
  pub filling : Filling w (k + 1) none p' l'
  pub places_kept : Kept (length w.gp) p p'
  pub labels_kept : Kept (length w.gp) l l'

pub record Marked (q : ℕ) (l l' : List ℕ) : Type 0 where
  pub kept : Kept q l l'
  pub fresh : (g : ℕ) → g < q → get_or l' g 0 ≡ 3

pub record Taking (w : Pair) (k : ℕ) (p l : List ℕ) : Type 0 where
  pub sound : Sound w
  pub inside : k < length w.gp
  pub filling : Filling w k none p l

pub record FilledFrom (w : Pair) (p p' l l' : List ℕ) : Type 0 where
  pub filled : Filled w p' l'
  pub places_kept : Kept (length w.gp) p p'
  pub labels_kept : Kept (length w.gp) l l'
