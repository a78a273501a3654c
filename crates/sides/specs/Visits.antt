-- Private to the searches: what their passes and loops need and leave; nothing of it is part of a promise.
--   SideBy sp a x r    <-> r is the side of species node a on which x lies
--   has_side r, side_entry r == is there a side; its entry in the table, none if there is none
--   SmallSide r        <-> a side's number has 16 bits, and stands for nothing else in the table
--   unseen             == 65,534: no child of the gene node has been looked at yet
--   merged v s         == what is known of a gene node, v, and the side s of one child more: none as soon as a child has no side or
--                         two have the same
--   sides_of f ks      == what is known after the children ks, where f gives each child's side
--   child_side sp gp p c == the side of child c: of its parent's place, on which its own place lies
--   Seen .. c sides    <-> the table has what is known after the children below c
--   Visiting, Visited  <-> what looking at child c needs and leaves
--   Nesting, Nested    <-> what the search of rule 10 needs and leaves
--   parted_in lb sides g, Parted .. r <-> rule 11 by what is known of the children; what its search finds
-- Assumes nothing.
use Rattle.std.specs.Prelude.{ℕ, ◌+◌, ◌≤◌, ◌<◌, ◌≡◌, Bool, true, false, ◌||◌, not, List, [], ◌∷◌, length, get_or, replicate, T, eqb, Some, None, Option}
use Rattle.trees.specs.Lists.{range, keep_if, pick}
use Rattle.trees.specs.Trees.{none, up}
use Rattle.trees.specs.Sound.{Treelike}
use Rattle.trees.specs.Rulings.{accepted, each, verdict, fine}
use Rattle.trees.specs.Answers.{judged_of}
use Rattle.trees.specs.Answers.{Judged}
use Rattle.trees.specs.declared.SpeciesNode.{SpeciesNode}
use Rattle.sides.specs.Tests.{side_of, nested_by}

abbrev pub SideBy : List ℕ → ℕ → ℕ → Option SpeciesNode → Type 0
SideBy sp a x (Some s) = (s.0 < length sp) × (s.0 ≡ side_of sp a x)
SideBy sp a x None = none ≡ side_of sp a x

abbrev pub has_side : Option SpeciesNode → Bool
has_side (Some s) = true
has_side None = false

abbrev pub side_entry : Option SpeciesNode → ℕ
side_entry (Some s) = s.0
side_entry None = none

abbrev pub SmallSide : Option SpeciesNode → Type 0
SmallSide r = T (has_side r) → side_entry r < 65534

abbrev pub unseen : ℕ
unseen = 65534

unfoldable pub merged : ℕ → ℕ → ℕ
merged v s = pick (eqb v unseen) s (pick (eqb v s || eqb s none) none v)

unfoldable pub sides_from : (ℕ → ℕ) → ℕ → List ℕ → ℕ
sides_from f v [] = v
sides_from f v (c ∷ ks) = sides_from f (merged v (f c)) ks

abbrev pub sides_of : (ℕ → ℕ) → List ℕ → ℕ
sides_of f ks = sides_from f unseen ks

abbrev pub child_side : List ℕ → List ℕ → List ℕ → ℕ → ℕ
child_side sp gp p c = side_of sp (get_or p (up gp c) 0) (get_or p c 0)

pub record Seen (sp gp p : List ℕ) (c : ℕ) (sides : List ℕ) : Type 0 where
  pub size : length sides ≡ 2047
  pub at : (g : ℕ) → g < length gp → get_or sides g 0 ≡ sides_of (child_side sp gp p) (keep_if (λ j. eqb (up gp j) g) (range 0 c))

-- the places are species nodes, and the children below c have been looked at
pub record Visiting (sp gp p : List ℕ) (c : ℕ) (sides : List ℕ) : Type 0 where
  pub tree : Treelike sp
  pub few : length gp ≤ 2047
  pub room : length gp ≤ length p
  pub placed : (g : ℕ) → g < length gp → get_or p g 0 < length sp
  pub inside : c < length gp
  pub seen : Seen sp gp p c sides

-- rule 10 at c, and where it holds what is known of its parent's children
pub record Visited (sp gp pl : List ℕ) (c : ℕ) (sides : List ℕ) (r : Bool) : Type 0 where
  pub test : r ≡ nested_by sp gp pl c
  pub seen : T r → Seen sp gp pl (c + 1) sides

pub record Nesting (sp gp pl sides : List ℕ) : Type 0 where
  pub tree : Treelike sp
  pub few : length gp ≤ 2047
  pub room : length gp ≤ length pl
  pub placed : (g : ℕ) → g < length gp → get_or pl g 0 < length sp
  pub fresh : sides ≡ replicate 2047 65534

pub record Nested (sp gp pl sides : List ℕ) (r : Judged) : Type 0 where
  pub judged : judged_of r ≡ verdict (each 10 2 (length gp) (nested_by sp gp pl) ∷ [])
  pub seen : judged_of r ≡ accepted fine → Seen sp gp pl (length gp) sides

unfoldable pub parted_in : List ℕ → List ℕ → ℕ → Bool
parted_in lb sides g = not (eqb (get_or lb g 0) 1) || not (eqb (get_or sides g 0) none)

abbrev pub Parted : List ℕ → List ℕ → ℕ → Judged → Type 0
Parted lb sides q r = judged_of r ≡ verdict (each 11 2 q (parted_in lb sides) ∷ [])
