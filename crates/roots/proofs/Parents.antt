-- Rule 2 node by node, and parents first node by node. Assumes nothing.
use Prim.Native.Nat.{ℕ, ◌+◌, ◌≤◌, ◌<◌}
use native.Mathlib.Omega.{arith}
use mathlib.Core.Path.{◌≡◌, refl, sym, ◌∙◌}
use mathlib.Core.Logic.{◌≢◌, ◌↔◌}
use mathlib.Core.Bool.{Bool, true, false, not, ◌&&◌, ◌||◌}
use mathlib.Core.List.{List, [], ◌∷◌}
use lib.ListN.{length, get_or}
use lib.Dec.{T, eqb, ltb, ltb→lt, lt→ltb}
use Rattle.trees.specs.Lists.{range, any, lowest}
use Rattle.trees.specs.Trees.{none, up, is_root, nodes}
use Rattle.trees.specs.First.{ParentsFirst}
use Rattle.trees.specs.Rulings.{accepted, refused, whole, each, ruling, verdict, fine, number_of, tree_of}
use Rattle.trees.specs.Rules.{parented, topped, reaching, root_rules}
use Rattle.trees.proofs.Bools.{true_T}
use Rattle.trees.proofs.Lists.{any_more}
use Rattle.trees.proofs.Lines.{up_at}
use Rattle.trees.proofs.Rulings.{ruling_pass, ruling_fail, ruling_stays, verdict_left, each_fails, each_passes}
use Rattle.roots.specs.Promises.{parent_rules}

-- ---- parents first

-- at one node
abbrev pub FirstAt : List ℕ → ℕ → Type 0
FirstAt par i = (i ≡ 0 → up par 0 ≡ none) × (0 < i → up par i < i)

pub first_root : (par : List ℕ) → 0 < length par → get_or par 0 0 ≡ 65535 → FirstAt par 0
first_root par h e = ((λ z. up_at par 0 h ∙ e), (λ z. absurd (omega arith)))

pub first_test : (par : List ℕ) (i : ℕ) → 0 < i → i < length par → T (ltb (get_or par i 0) i) ↔ FirstAt par i
first_test par i a h = (
  (λ t. ((λ z. absurd (omega arith)), (λ z. omega (arith, up_at par i h, ltb→lt (get_or par i 0) i t)))),
  (λ f. lt→ltb (get_or par i 0) i (omega (arith, up_at par i h, f.1 a))),
)

pub first_all : (par : List ℕ) → 0 < length par → ((i : ℕ) → i < length par → FirstAt par i) ↔ ParentsFirst par
first_all par s = (
  (λ f. record { top = (f 0 s).0 refl; order = λ i a h. (f i h).1 a }),
  (λ F i h. ((λ z. F.top), (λ a. F.order i a h))),
)

pub not_first : (par : List ℕ) → 0 < length par → get_or par 0 0 ≢ 65535 → ParentsFirst par → ⊥
not_first par h n F = n (sym (up_at par 0 h) ∙ F.top)

-- ---- rule 2

module _ (par : List ℕ) (i : ℕ) (h : i < length par) where
  pub parented_by : (seen : Bool) → seen ≡ any (is_root par) (range 0 i) → (ltb (get_or par i 0) (length par) || (eqb (get_or par i 0) 65535 && not seen)) ≡ parented par i
  unfolding parented is_root
  parented_by seen e = rw (e, up_at par i h)

  pub seen_more : (seen : Bool) → seen ≡ any (is_root par) (range 0 i) → (seen || eqb (get_or par i 0) 65535) ≡ any (is_root par) (range 0 (i + 1))
  unfolding is_root
  seen_more seen e = rw (e, any_more (is_root par) i, up_at par i h)

module _ (t : ℕ) (par : List ℕ) where
  pub parents_refused : (i : ℕ) → i < length par → parented par i ≡ false → ((k : ℕ) → k < i → T (parented par k)) → verdict (parent_rules t par) ≡ refused 2 t i
  unfolding number_of tree_of
  parents_refused i h e f = ruling_fail (each 2 t (length par) (parented par)) (whole 2 t none (topped par) ∷ []) fine i (h, e, f)

  module _ (f : (k : ℕ) → k < length par → T (parented par k)) where
    past_each : verdict (parent_rules t par) ≡ verdict (whole 2 t none (topped par) ∷ [])
    past_each = ruling_pass (each 2 t (length par) (parented par)) (whole 2 t none (topped par) ∷ []) fine f

    pub parents_none : any (is_root par) (range 0 (length par)) ≡ false → verdict (parent_rules t par) ≡ refused 2 t 65535
    unfolding number_of tree_of topped nodes
    parents_none e = past_each ∙ ruling_fail (whole 2 t none (topped par)) [] fine none (refl, e)

    pub parents_passed : any (is_root par) (range 0 (length par)) ≡ true → verdict (parent_rules t par) ≡ accepted fine
    unfolding ruling topped nodes
    parents_passed e = past_each ∙ ruling_pass (whole 2 t none (topped par)) [] fine (true_T e)

  -- ---- rule 2, then 38

  pub roots_refused : (n u v : ℕ) → verdict (parent_rules t par) ≡ refused n u v → verdict (root_rules t par) ≡ refused n u v
  unfolding root_rules
  roots_refused n u v e = ruling_stays (parent_rules t par) (each 38 t (length par) (reaching par) ∷ []) fine fine n u v e

  pub roots_left : verdict (parent_rules t par) ≡ accepted fine → verdict (root_rules t par) ≡ verdict (each 38 t (length par) (reaching par) ∷ [])
  unfolding root_rules
  roots_left e = verdict_left (parent_rules t par) (each 38 t (length par) (reaching par) ∷ []) e

  -- by the lowest node that never reaches the root
  module _ (e : verdict (parent_rules t par) ≡ accepted fine) (v : ℕ) (l : v ≡ lowest (reaching par) (length par)) where
    pub roots_lost : v < length par → verdict (root_rules t par) ≡ refused 38 t v
    unfolding number_of tree_of
    roots_lost h = roots_left e ∙ ruling_fail (each 38 t (length par) (reaching par)) [] fine v (each_fails 38 t (length par) (reaching par) v l h)

    pub roots_passed : length par ≤ v → verdict (root_rules t par) ≡ accepted fine
    unfolding ruling
    roots_passed h = roots_left e ∙ ruling_pass (each 38 t (length par) (reaching par)) [] fine (each_passes 38 t (length par) (reaching par) v l h)
