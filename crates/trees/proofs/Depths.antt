-- How deep the nodes of sound tables are, every node counted: the steps up to the root, as code that reads the table counts them.
-- Assumes nothing.
use Prim.Native.Nat.{ℕ, ◌+◌, ◌≤◌, ◌<◌}
use native.Mathlib.Omega.{arith}
use native.Mathlib.Decide.{ℕ_discrete}
use mathlib.Core.Path.{◌≡◌, sym, ◌∙◌}
use mathlib.Core.Logic.{◌≢◌}
use mathlib.Core.Bool.{true}
use mathlib.Core.List.{List}
use lib.ListN.{length, get_or}
use Rattle.trees.specs.Lists.{total, one}
use Rattle.trees.specs.Trees.{up, depth}
use Rattle.trees.specs.Sound.{SoundTree}
use Rattle.trees.proofs.Lines.{up_at, parent_in, line_out, depth_up, same_depth}
use Rattle.trees.proofs.Shape.{inner_count, depth_few}
use Rattle.trees.proofs.Sound.{rooted, below_root}

module _ {par tax : List ℕ} (S : SoundTree par tax) where
  -- a parent is one less deep
  pub depth_next : (s : ℕ) → s < length par → get_or par s 0 < length par → depth par (λ y. true) s ≡ depth par (λ y. true) (get_or par s 0) + 1
  unfolding one
  depth_next s h u = rw (← up_at par s h) (depth_up (rooted S).ground (λ y. true) s (rw (up_at par s h) u) ∙ omega arith)

  -- what has no parent has depth 0
  pub depth_root : (s : ℕ) → s < length par → length par ≤ get_or par s 0 → depth par (λ y. true) s ≡ 0
  unfolding depth total
  depth_root s h u = rw (line_out par (up par s) (rw (up_at par s h) u))

  pub depth_fits : (s : ℕ) → s < length par → depth par (λ y. true) s ≤ 1023
  depth_fits s h = omega (arith, depth_few (rooted S) S.two s h, inner_count (rooted S) S.two, S.few)

  pub depth_under : (s : ℕ) → s < length par → depth par (λ y. true) s < length par
  depth_under s h = omega (arith, depth_few (rooted S) S.two s h, inner_count (rooted S) S.two)

  -- of two different nodes of one depth neither is the root
  pub level_inner : (a b : ℕ) → a < length par → b < length par → a ≢ b → depth par (λ y. true) a ≡ depth par (λ y. true) b → get_or par a 0 < length par
  level_inner a b h l n e =
      elim (ℕ_discrete a S.root) [
        | yes z ↦ absurd (n (sym (same_depth (rooted S).ground (λ y. true) {a = a} (rw z (below_root S b l)) tt (omega arith))))
        | no z ↦ parent_in par a h (S.others a h z)
      ]
