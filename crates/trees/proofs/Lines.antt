-- At or below, and lines. No law here asks how nodes are numbered; `Grounded`, a rank that falls from a node to its parent, is enough.
-- Assumes nothing.
use Prim.Native.Nat.{ℕ, zero, suc, ◌+◌, ◌≤◌, ◌<◌}
use native.Mathlib.Nat.{not-suc-le-zero}
use native.Mathlib.Omega.{arith}
use native.Mathlib.Decide.{dec_lt}
use mathlib.Core.Path.{◌≡◌, refl, sym, ap, ◌∙◌, subst}
use mathlib.Core.Logic.{◌⊎◌, inl, inr}
use mathlib.Core.Bool.{Bool, true}
use mathlib.Core.List.{List, [], ◌∷◌}
use lib.ListN.{length, get_or}
use lib.Dec.{T, eqb, eqb→eq, eqb_refl}
use borrow.Author.Tests.{lt-ltb, le-ltb}
use Rattle.trees.specs.Lists.{has, total, one}
use Rattle.trees.proofs.Lists.{get_or_any}
use Rattle.trees.proofs.Bools.{or_left, or_right, or_cases, one_T}
use Rattle.trees.specs.Trees.{none, up, climb, line, Below, here, step, depth}

-- a parent as the code reads it
pub up_at : (par : List ℕ) (i : ℕ) → i < length par → up par i ≡ get_or par i 0
unfolding up
up_at par i h = get_or_any par i none 0 h

-- a node's entry in the table, where its parent is known to be low
pub parent_in : (par : List ℕ) (i : ℕ) {k : ℕ} → i < length par → up par i < k → get_or par i 0 < k
parent_in par i h u = rw (up_at par i h) at u

module _ {par : List ℕ} where
  pub top_node : {a x : ℕ} → Below par a x → a < length par
  top_node (here l) = l
  top_node (step l p) = top_node p

  pub low_node : {a x : ℕ} → Below par a x → x < length par
  low_node (here l) = l
  low_node (step l p) = l

  pub trans : {a b x : ℕ} → Below par a x → Below par b a → Below par b x
  trans (here l) q = q
  trans (step l p) q = step l (trans p q)

  -- two ancestors of one node
  pub line_up : {a b x : ℕ} → Below par a x → Below par b x → Below par a b ⊎ Below par b a
  line_up (here l) q = inr q
  line_up (step l p) (here m) = inl (step l p)
  line_up (step l p) (step m q) = line_up p q

  -- at, or below the parent
  pub proper : {a x : ℕ} → Below par a x → (x ≡ a) ⊎ Below par a (up par x)
  proper (here l) = inl refl
  proper (step l p) = inr p

-- a rank that falls from each node to its parent: in a tree, the depth
pub record Grounded (par : List ℕ) : Type 0 where
  pub rank : ℕ → ℕ
  pub falls : (s : ℕ) → s < length par → up par s < length par → rank (up par s) < rank s
  pub small : (s : ℕ) → s < length par → rank s < length par

pub climb_in : (par : List ℕ) (k s : ℕ) → s < length par → climb par (suc k) s ≡ s ∷ climb par k (up par s)
unfolding climb
climb_in par k s h = rw (lt-ltb s (length par) h, climb)

pub climb_out : (par : List ℕ) (k s : ℕ) → length par ≤ s → climb par k s ≡ []
unfolding climb
climb_out par zero s h = refl
climb_out par (suc k) s h = rw (le-ltb s (length par) h, climb)

pub line_out : (par : List ℕ) (s : ℕ) → length par ≤ s → line par s ≡ []
unfolding line
line_out par s h = climb_out par (length par) s h

module _ {par : List ℕ} (G : Grounded par) where
  stable : (k s : ℕ) → (s < length par → G.rank s < k) → climb par (suc k) s ≡ climb par k s
  stable zero s p =
      elim (dec_lt s (length par)) [ yes h ↦ absurd (not-suc-le-zero (p h)) | no h ↦ climb_out par 1 s (omega arith) ∙ sym (climb_out par 0 s (omega arith)) ]
  stable (suc k) s p =
      elim (dec_lt s (length par)) [
        | yes h ↦ climb_in par (suc k) s h ∙ ap (λ l. s ∷ l) (stable k (up par s) (λ l. omega (arith, p h, G.falls s h l))) ∙ sym (climb_in par k s h)
        | no h ↦ climb_out par (suc (suc k)) s (omega arith) ∙ sym (climb_out par (suc k) s (omega arith))
      ]

  pub line_in : (s : ℕ) → s < length par → line par s ≡ s ∷ line par (up par s)
  unfolding line
  line_in s h = sym (stable (length par) s (G.small s)) ∙ climb_in par (length par) s h

  -- a sum over a line grows downwards
  total_line : (f : ℕ → ℕ) {a x : ℕ} → Below par a x → total f (line par a) ≤ total f (line par x)
  unfolding total
  total_line f (here l) = omega arith
  total_line f {x = x} (step l p) = rw (line_in x l) (omega (arith, total_line f p))

  pub depth_below : (counted : ℕ → Bool) {a : ℕ} (x : ℕ) → Below par a (up par x) → one (counted a) + depth par counted a ≤ depth par counted x
  unfolding depth total
  depth_below counted {a} x p = rw (line_in a (top_node p)) at (total_line (λ y. one (counted y)) p)

  pub depth_le : (counted : ℕ → Bool) {a x : ℕ} → Below par a x → depth par counted a ≤ depth par counted x
  depth_le counted {a} {x} p = elim (proper p) [ inl e ↦ rw e (omega arith) | inr q ↦ omega (arith, depth_below counted x q) ]

  -- one step up, one less deep if the parent is counted
  pub depth_up : (counted : ℕ → Bool) (s : ℕ) → up par s < length par → depth par counted s ≡ one (counted (up par s)) + depth par counted (up par s)
  unfolding depth total
  depth_up counted s u = rw (line_in (up par s) u)

  -- a counted node and one at or below it that is no deeper are one
  pub same_depth : (counted : ℕ → Bool) {a x : ℕ} → Below par a x → T (counted a) → depth par counted x ≤ depth par counted a → x ≡ a
  same_depth counted {a} {x} p t d =
      elim (proper p) [ inl e ↦ e | inr q ↦ absurd (omega (arith, one_T (counted a) t, depth_below counted x q)) ]

  pub antisym : {a x : ℕ} → Below par a x → Below par x a → x ≡ a
  antisym p q = same_depth (λ y. true) p tt (depth_le (λ y. true) q)

  -- the line holds exactly the nodes at or above
  pub on_line : {a x : ℕ} → Below par a x → T (has a (line par x))
  unfolding has
  on_line {a} (here l) = rw (line_in a l) (or_left (eqb a a) (has a (line par (up par a))) (eqb_refl a))
  on_line {a} {x} (step l p) = rw (line_in x l) (or_right (eqb a x) (has a (line par (up par x))) (on_line p))

  -- from the children to the parent
  from_fuel : (P : ℕ → Type 0) → ((g : ℕ) → g < length par → ((c : ℕ) → c < length par → up par c ≡ g → P c) → P g)
      → (k g : ℕ) → g < length par → length par ≤ k + G.rank g → P g
  from_fuel P f zero g h e = absurd (omega (arith, G.small g h))
  from_fuel P f (suc k) g h e = f g h (λ c l u. from_fuel P f k c l (omega (arith, e, rw u at (G.falls c l (rw u h)))))

  pub from_kids : (P : ℕ → Type 0) → ((g : ℕ) → g < length par → ((c : ℕ) → c < length par → up par c ≡ g → P c) → P g) → (g : ℕ) → g < length par → P g
  from_kids P f g h = from_fuel P f (length par) g h (omega arith)

from_climb : (par : List ℕ) (k : ℕ) {a x : ℕ} → T (has a (climb par k x)) → Below par a x
unfolding climb has
from_climb par zero t = absurd t
from_climb par (suc k) {a} {x} t =
    elim (dec_lt x (length par)) [
      | yes h ↦ elim (or_cases (eqb a x) (has a (climb par k (up par x))) (rw (climb_in par k x h) at t)) [
        | inl e ↦ subst (λ y. Below par a y) (eqb→eq a x e) (here (rw (eqb→eq a x e) h))
        | inr r ↦ step h (from_climb par k r)
      ]
      | no h ↦ absurd (rw (climb_out par (suc k) x (omega arith)) at t)
    ]

pub off_line : (par : List ℕ) {a x : ℕ} → T (has a (line par x)) → Below par a x
unfolding line
off_line par {x = x} t = from_climb par (length par) t
