-- Reaching the root. A way up that ends at a root passes each node once, so it has fewer steps than there are nodes: the pigeonhole.
-- From it: a table whose nodes all lie below one root is a tree in any numbering, and the depth is the rank that its laws need.
-- Assumes nothing.
use Prim.Native.Nat.{ℕ, zero, suc, ◌+◌, ◌≤◌, ◌<◌}
use native.Mathlib.Omega.{arith}
use native.Mathlib.Decide.{dec_lt, ℕ_discrete}
use mathlib.Core.Path.{◌≡◌, refl, ap, ◌∙◌, subst}
use mathlib.Core.Logic.{◌⊎◌, inl, inr, ◌↔◌}
use mathlib.Core.List.{List}
use lib.ListN.{length, get_or-eq_default}
use lib.Dec.{T, eqb, eqb→eq, eqb_refl}
use borrow.Author.Tests.{eq-eqb, ne_eqb}
use Rattle.trees.specs.Lists.{range, has, total}
use Rattle.trees.specs.Trees.{none, up, is_root, above, climb, line, Below, here, step, nodes}
use Rattle.trees.specs.Rules.{reaching}
use Rattle.trees.proofs.Bools.{or_left, or_right}
use Rattle.trees.proofs.Lists.{only, any_has, has_any, total_add, total_at}
use Rattle.trees.proofs.Lines.{Grounded, low_node, proper, climb_in, off_line}
use Rattle.trees.proofs.Kids.{Rooted}

-- ---- a way up, and how long it is

steps : {par : List ℕ} {r x : ℕ} → Below par r x → ℕ
steps (here l) = 0
steps (step l p) = suc (steps p)

-- how often a stands on the way from x to r
on : {par : List ℕ} {r x : ℕ} → Below par r x → ℕ → ℕ
on {r = r} (here l) a = only (eqb r a) 1
on (step {x = x} l p) a = only (eqb x a) 1 + on p a

total_one : (f : ℕ → ℕ) → ((y : ℕ) → f y ≤ 1) → (i k : ℕ) → total f (range i k) ≤ k
unfolding total range
total_one f h i zero = omega arith
total_one f h i (suc k) = omega (arith, h i, total_one f h (suc i) k)

module _ {par : List ℕ} {r : ℕ} (out : length par ≤ up par r) where
  steps_same : {x y : ℕ} (p : Below par r x) (q : Below par r y) → x ≡ y → steps p ≡ steps q
  unfolding steps
  steps_same (here l) (here m) e = refl
  steps_same (here l) (step {x = y} m q) e = absurd (omega (arith, out, ap (up par) e, low_node q))
  steps_same (step {x = x} l p) (here m) e = absurd (omega (arith, out, ap (up par) e, low_node p))
  steps_same (step l p) (step m q) e = ap suc (steps_same p q (ap (up par) e))

  total_on : {x : ℕ} (p : Below par r x) → total (on p) (nodes par) ≡ suc (steps p)
  unfolding on steps nodes
  total_on (here l) = total_at (λ y. 1) r 0 (length par) (omega arith) (omega arith)
  total_on (step {x = x} l p) =
      total_add (λ a. only (eqb x a) 1) (on p) (nodes par) ∙ omega (arith, total_at (λ y. 1) x 0 (length par) (omega arith) (omega arith), total_on p)

  found : {x : ℕ} (p : Below par r x) (a : ℕ) → (on p a ≡ 0) ⊎ ((q : Below par r a) × (steps q ≤ steps p))
  unfolding on steps
  found (here l) a = elim (ℕ_discrete r a) [ yes e ↦ inr (rw (← e) (here l, omega arith)) | no n ↦ inl (rw (ne_eqb r a n)) ]
  found (step {x = x} l p) a =
      elim (ℕ_discrete x a) [
        | yes e ↦ inr (subst (λ z. (q : Below par r z) × (steps q ≤ suc (steps p))) e (step l p, omega arith))
        | no n ↦ elim (found p a) [ inl z ↦ inl (rw (ne_eqb x a n) (omega arith)) | inr q ↦ inr (q.0, omega (arith, q.1)) ]
      ]

  once : {x : ℕ} (p : Below par r x) (a : ℕ) → on p a ≤ 1
  unfolding on steps
  once (here l) a = elim (ℕ_discrete r a) [ yes e ↦ rw (eq-eqb r a e) (omega arith) | no n ↦ rw (ne_eqb r a n) (omega arith) ]
  once (step {x = x} l p) a =
      elim (ℕ_discrete x a) [
        | yes e ↦ elim (found p a) [
          | inl z ↦ rw (eq-eqb x a e) (omega arith)
          | inr q ↦ absurd (omega (arith, q.1, steps_same (step l p) q.0 e))
        ]
        | no n ↦ rw (ne_eqb x a n) (omega (arith, once p a))
      ]

  few_steps : {x : ℕ} (p : Below par r x) → steps p < length par
  unfolding nodes
  few_steps p = omega (arith, total_on p, total_one (on p) (once p) 0 (length par))

-- ---- steps up, and at or below

steps_above : {par : List ℕ} {a x : ℕ} (p : Below par a x) → above par (steps p) x ≡ a
unfolding above steps
steps_above (here l) = refl
steps_above (step l p) = steps_above p

pub below_above : {par : List ℕ} {a x : ℕ} → Below par a x → (k : ℕ) × (above par k x ≡ a)
below_above p = (steps p, steps_above p)

-- from outside the table no node is reached
above_out : (par : List ℕ) → length par ≤ none → (k s : ℕ) → length par ≤ s → length par ≤ above par k s
unfolding above up
above_out par f zero s h = h
above_out par f (suc k) s h = above_out par f k (up par s) (rw (get_or-eq_default par none h) f)

pub above_below : (par : List ℕ) → length par ≤ none → (k : ℕ) {a x : ℕ} → x < length par → a < length par → above par k x ≡ a → Below par a x
unfolding above
above_below par f zero {a} {x} h l e = subst (λ y. Below par y x) e (here h)
above_below par f (suc k) {x = x} h l e =
    elim (dec_lt (up par x) (length par)) [
      | yes u ↦ step h (above_below par f k u l e)
      | no u ↦ absurd (omega (arith, e, above_out par f k (up par x) (omega arith)))
    ]

-- ---- the test of 38

root_out : (par : List ℕ) (r : ℕ) → length par ≤ none → T (is_root par r) → length par ≤ up par r
unfolding is_root
root_out par r f t = rw (eqb→eq (up par r) none t) f

on_climb : (par : List ℕ) {r x : ℕ} (p : Below par r x) (k : ℕ) → steps p < k → T (has r (climb par k x))
unfolding steps has up
on_climb par p zero h = absurd (omega arith)
on_climb par {r} (here l) (suc k) h = rw (climb_in par k r l) (or_left (eqb r r) (has r (climb par k (up par r))) (eqb_refl r))
on_climb par {r} {x} (step l p) (suc k) h = rw (climb_in par k x l) (or_right (eqb r x) (has r (climb par k (up par x))) (on_climb par {x = up par x} p k (omega arith)))

-- a node reaches the root: it lies below one
abbrev pub Reaches : List ℕ → ℕ → Type 0
Reaches par x = (r : ℕ) × T (is_root par r) × Below par r x

-- n steps are enough to tell
pub reaching_is : (par : List ℕ) → length par ≤ none → (x : ℕ) → T (reaching par x) ↔ Reaches par x
unfolding reaching line
reaching_is par f x = (
  (λ t. let k = has_any (is_root par) (line par x) t in (k.0, k.2, off_line par k.1)),
  (λ R. any_has (is_root par) R.0 (line par x) (on_climb par R.2 (length par) (few_steps (root_out par R.0 f R.1) R.2)) R.1),
)

-- and n steps are enough to reach it
pub reach_soon : (par : List ℕ) → length par ≤ none → {r x : ℕ} → T (is_root par r) → Below par r x → (k : ℕ) × (k < length par) × (above par k x ≡ r)
reach_soon par f {r} t p = (steps p, few_steps (root_out par r f t) p, steps_above p)

-- ---- a table whose nodes all lie below one root

pub record Reach (par : List ℕ) : Type 0 where
  pub fits : length par ≤ none
  pub root : ℕ
  pub root_in : root < length par
  pub root_up : length par ≤ up par root
  pub reach : (x : ℕ) → x < length par → Below par root x

module _ {par : List ℕ} (A : Reach par) where
  abbrev rank_of : (x : ℕ) → Dec (x < length par) → ℕ
  rank_of x (yes h) = steps (A.reach x h)
  rank_of x (no n) = 0

  rank_is : (x : ℕ) (d : Dec (x < length par)) (p : Below par A.root x) → rank_of x d ≡ steps p
  rank_is x (yes h) p = steps_same A.root_up (A.reach x h) p refl
  rank_is x (no n) p = absurd (n (low_node p))

  pub reach_ground : Grounded par
  unfolding steps
  reach_ground =
      record {
        rank = λ x. rank_of x (dec_lt x (length par));
        falls = λ s h u.
            let p = A.reach (up par s) u in omega (arith, rank_is s (dec_lt s (length par)) (step h p), rank_is (up par s) (dec_lt (up par s) (length par)) p);
        small = λ s h. let p = A.reach s h in omega (arith, rank_is s (dec_lt s (length par)) p, few_steps A.root_up p);
      }

  abbrev pub reach_rooted : Rooted par
  reach_rooted =
      record {
        ground = reach_ground;
        fits = A.fits;
        root = A.root;
        root_in = A.root_in;
        root_up = A.root_up;
        others = λ c h n. elim (proper (A.reach c h)) [ inl e ↦ absurd (n e) | inr q ↦ low_node q ];
      }
