-- What a call answers, and the order in which it refuses.
--   Ruling A            == accepted with a value of A, or refused with number, tree and place
--                                                   (01, "A refusal gives the number, the tree (0 none, 1 species, 2 gene) and a place")
--   refused_by r        == the refusal that a call hands back, in the paper's terms
--   whole n t v b       == the rule of number n that is one test b; refused at tree t, place v
--   each n t k ok       == the rule of number n that is a test ok of each of k nodes (or blocks); refused at the lowest that fails
--   ruling rs a         == refused by the first rule of rs that fails, else accepted with a
--                                                   (01, "Each number is tested over the whole table before the following one")
--   verdict rs          == the same where there is nothing to answer but that it is sound
--   Passes r, Fails r v <-> the rule r holds everywhere; r is refused at v and, if it is a test of each node, holds below v
-- Assumes nothing.
use Rattle.std.specs.Prelude.{ℕ, ◌<◌, ◌≡◌, Bool, false, List, [], ◌∷◌, eqb, T}
use Rattle.trees.specs.Lists.{lowest, pick}
use Rattle.trees.specs.declared.Refusal.{Refusal}

pub data Ruling (A : Type 0) : Type 0 where
  accepted : A → Ruling A
  refused : ℕ → ℕ → ℕ → Ruling A

abbrev pub refused_by : {A : Type 0} → Refusal → Ruling A
refused_by r = refused r.number r.tree r.place

pub data Rule : Type 0 where
  whole : ℕ → ℕ → ℕ → Bool → Rule
  each : ℕ → ℕ → ℕ → (ℕ → Bool) → Rule

unfoldable pub ruling : {A : Type 0} → List Rule → A → Ruling A
ruling [] a = accepted a
ruling (whole n t v b ∷ rs) a = pick b (ruling rs a) (refused n t v)
ruling (each n t k ok ∷ rs) a = pick (eqb (lowest ok k) k) (ruling rs a) (refused n t (lowest ok k))

pub data Fine : Type 0 where
  fine : Fine

abbrev pub verdict : List Rule → Ruling Fine
verdict rs = ruling rs fine

unfoldable pub number_of : Rule → ℕ
number_of (whole n t v b) = n
number_of (each n t k ok) = n

unfoldable pub tree_of : Rule → ℕ
tree_of (whole n t v b) = t
tree_of (each n t k ok) = t

abbrev pub Passes : Rule → Type 0
Passes (whole n t v b) = T b
Passes (each n t k ok) = (i : ℕ) → i < k → T (ok i)

abbrev pub Fails : Rule → ℕ → Type 0
Fails (whole n t v b) p = (p ≡ v) × (b ≡ false)
Fails (each n t k ok) p = (p < k) × (ok p ≡ false) × ((i : ℕ) → i < p → T (ok i))

pub data Every (P : Rule → Type 0) : List Rule → Type 0 where
  done : Every P []
  and : {r : Rule} {rs : List Rule} → P r → Every P rs → Every P (r ∷ rs)
