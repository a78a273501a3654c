-- A tree as its table of parents.
--   none              == 65,535: no parent                                          (01, "65,535 (no parent)")
--   up par s          == the parent of s; none where there is none
--   is_root par s     == has s the entry 65,535?                                     (02, W8: "exactly one 65,535 entry")
--   above par k s     == the node k steps up from s
--   line par s        == s and its ancestors, nearest first; empty if s is no node
--   Below par a x     <-> x is at or below a
--   nodes par         == the node numbers, ascending                                (01, "numbered from 0")
--   kids par g        == the children of g, ascending
--   kid par g 0, 1    == the first child, the second child of g                     (01, "The child with the lower number is the first child")
--   Leaf, Inner       <-> g has no child, g has two                                  (01, "Every node has two children or none")
--   is_leaf par g     == the test of Leaf
--   depth par c s     == how many proper ancestors of s the set c counts; with every node counted:
--                        the number of steps from s up to the root                   (01, "Depth is the number of steps up to the root")
--   Meet par a b m    <-> m is the lowest common ancestor of a and b
-- None of it asks how nodes are numbered. Assumes nothing.
use Rattle.std.specs.Prelude.{ℕ, zero, suc, ◌<◌, ◌≡◌, Bool, true, false, List, [], ◌∷◌, length, get_or, eqb, ltb}
use Rattle.trees.specs.Lists.{range, keep_if, total, one}

abbrev pub none : ℕ
none = 65535

unfoldable pub up : List ℕ → ℕ → ℕ
up par s = get_or par s none

unfoldable pub is_root : List ℕ → ℕ → Bool
is_root par s = eqb (up par s) none

unfoldable pub above : List ℕ → ℕ → ℕ → ℕ
above par zero s = s
above par (suc k) s = above par k (up par s)

-- at most k nodes of the line of s
unfoldable pub climb : List ℕ → ℕ → ℕ → List ℕ
climb par zero s = []
climb par (suc k) s = elim (ltb s (length par)) [ true ↦ s ∷ climb par k (up par s) | false ↦ [] ]

unfoldable pub line : List ℕ → ℕ → List ℕ
line par s = climb par (length par) s

pub data Below (par : List ℕ) (a : ℕ) : ℕ → Type 0 where
  here : a < length par → Below par a a
  step : {x : ℕ} → x < length par → Below par a (up par x) → Below par a x

unfoldable pub nodes : List ℕ → List ℕ
nodes par = range 0 (length par)

unfoldable pub kids : List ℕ → ℕ → List ℕ
kids par g = keep_if (λ i. eqb (up par i) g) (nodes par)

unfoldable pub kid : List ℕ → ℕ → ℕ → ℕ
kid par g i = get_or (kids par g) i none

abbrev pub Leaf : List ℕ → ℕ → Type 0
Leaf par g = length (kids par g) ≡ 0

abbrev pub Inner : List ℕ → ℕ → Type 0
Inner par g = length (kids par g) ≡ 2

unfoldable pub is_leaf : List ℕ → ℕ → Bool
is_leaf par g = eqb (length (kids par g)) 0

unfoldable pub depth : List ℕ → (ℕ → Bool) → ℕ → ℕ
depth par counted s = total (λ x. one (counted x)) (line par (up par s))

pub record Meet (par : List ℕ) (a b m : ℕ) : Type 0 where
  pub left : Below par m a
  pub right : Below par m b
  pub over : (c : ℕ) → Below par c a → Below par c b → Below par c m
