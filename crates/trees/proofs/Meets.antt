-- Where two lines meet, and the climb that finds it. Assumes nothing.
use Prim.Native.Nat.{ℕ, ◌≤◌, ◌<◌}
use native.Mathlib.Omega.{arith}
use mathlib.Core.Path.{◌≡◌, sym}
use mathlib.Core.Logic.{inl, inr, ◌≢◌}
use mathlib.Core.Bool.{true}
use mathlib.Core.List.{List}
use lib.ListN.{length}
use Rattle.trees.specs.Lists.{one}
use Rattle.trees.specs.Trees.{up, Below, here, step, depth, Meet}
use Rattle.trees.proofs.Lines.{Grounded, line_up, trans, proper, depth_below, depth_le, same_depth, antisym, low_node, top_node}

module _ {par : List ℕ} where
  pub meet_self : {a : ℕ} → a < length par → Meet par a a a
  meet_self h = record { left = here h; right = here h; over = λ c p q. p }

  pub meet_swap : {a b m : ℕ} → Meet par a b m → Meet par b a m
  meet_swap M = record { left = M.right; right = M.left; over = λ c p q. M.over c q p }

  -- one step up from a, if a is not above b
  pub meet_up : (a : ℕ) {b m : ℕ} → a < length par → (Below par a b → ⊥) → Meet par (up par a) b m → Meet par a b m
  meet_up a h n M =
      record {
        left = step h M.left;
        right = M.right;
        over = λ c p q. elim (proper p) [ inl e ↦ absurd (n (rw (sym e) at q)) | inr r ↦ M.over c r q ];
      }

module _ {par : List ℕ} (G : Grounded par) where
  pub rank_le : {a x : ℕ} → Below par a x → G.rank a ≤ G.rank x
  rank_le (here l) = omega arith
  rank_le {x = x} (step l p) = omega (arith, rank_le p, G.falls x l (low_node p))

  -- of two different nodes the one of higher rank is not above the other
  pub climb_left : (a : ℕ) {b m : ℕ} → a < length par → a ≢ b → G.rank b ≤ G.rank a → Meet par (up par a) b m → Meet par a b m
  climb_left a {b} h n r M =
      meet_up a h (λ q. elim (proper q) [ inl e ↦ n (sym e) | inr z ↦ omega (arith, rank_le z, G.falls b (low_node q) (low_node z)) ]) M

  pub meet_one : {a b m n : ℕ} → Meet par a b m → Meet par a b n → m ≡ n
  meet_one {m = m} {n = n} M N = antisym G (M.over n N.left N.right) (N.over m M.left M.right)

  -- a may go up to any node that is no less deep than b
  pub meet_lift : {a b r m : ℕ} → Below par r a → depth par (λ y. true) b ≤ depth par (λ y. true) r → Meet par r b m → Meet par a b m
  meet_lift {r = r} P d M =
      record {
        left = trans P M.left;
        right = M.right;
        over = λ c p q. elim (line_up p P) [
          | inl u ↦ M.over c u q
          | inr v ↦ M.over c (rw (same_depth G (λ y. true) v tt (omega (arith, depth_le G (λ y. true) q))) (here (top_node P))) q
        ];
      }

  -- two different nodes of one depth both go up
  pub meet_both : {a b m : ℕ} → a < length par → b < length par → a ≢ b → depth par (λ y. true) a ≡ depth par (λ y. true) b
      → Meet par (up par a) (up par b) m → Meet par a b m
  unfolding one
  meet_both {a} {b} h l n e M =
      meet_up a h (λ q. n (sym (same_depth G (λ y. true) q tt (omega arith))))
      (meet_swap (meet_up b l (λ q. omega (arith, depth_below G (λ y. true) a q)) (meet_swap M)))
