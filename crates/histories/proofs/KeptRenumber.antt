-- Renumber both trees in any way, and the kept species nodes are the renumbered ones. Assumes nothing.
use Prim.Native.Nat.{ℕ, ◌<◌}
use mathlib.Core.Logic.{inl, inr}
use lib.ListN.{length}
use lib.Dec.{T}
use Rattle.trees.specs.Trees.{kid}
use Rattle.trees.specs.Tables.{Pair}
use Rattle.trees.specs.Sound.{Sound}
use Rattle.trees.specs.Renumber.{RenumberedPair}
use Rattle.trees.proofs.Bools.{T-same}
use Rattle.trees.proofs.Sound.{trees}
use Rattle.trees.proofs.Renumber.{moved_in, moved_below, moved_leaf, moved_inner, moved_two, moved_home, sound_fits, renumbered_sound, pair_back}
use Rattle.histories.specs.Kept.{sampled, kept}
use Rattle.histories.specs.Renumber.{SameSet}
use Rattle.histories.proofs.Kept.{kept_leaf, seen_twice, sampled_test}

module _ {w w' : Pair} {σs ρs σg ρg : ℕ → ℕ} (S : Sound w) (N : RenumberedPair w w' σs ρs σg ρg) where
  moved_sampled : (s : ℕ) → T (sampled w s) → T (sampled w' (σs s))
  moved_sampled s t =
      let k = (sampled_test S s).0 t in
      let x : ℕ = k.0 in
      (sampled_test (renumbered_sound S N) (σs s)).1 (
        σg x,
        moved_in N.genes x k.1,
        moved_leaf N.genes (sound_fits S.genes) x k.1 k.2,
        rw (moved_home S N x k.1 k.2) (moved_below N.species k.3),
      )

  moved_kept : (s : ℕ) → s < length w.sp → T (kept w s) → T (kept w' (σs s))
  moved_kept s l t =
      let F = sound_fits S.species.tree in
      elim ((trees S).s_two s l) [
        | inl e ↦ (kept_leaf w' (σs s) (moved_leaf N.species F s l e)).1 (moved_sampled s ((kept_leaf w s e).0 t))
        | inr i ↦
            let p = (seen_twice w s i).0 t in
            let q0 = moved_sampled (kid w.sp s 0) p.0 in
            let q1 = moved_sampled (kid w.sp s 1) p.1 in
            (seen_twice w' (σs s) (moved_inner N.species F s l i)).1
            (elim (moved_two N.species F s l i) [ inl e ↦ rw (e.0, e.1) (q0, q1) | inr e ↦ rw (e.0, e.1) (q1, q0) ])
      ]

-- a species node is kept exactly if its new number is
pub kept_same : {w w' : Pair} {σs ρs σg ρg : ℕ → ℕ} → Sound w → RenumberedPair w w' σs ρs σg ρg → SameSet w.sp (kept w) (kept w') σs
kept_same {w} {w'} {σs} {ρs} S N =
    record {
      same = λ s l. T-same (kept w' (σs s)) (kept w s)
          (λ t. rw (N.species.numbers.back_there s l) at (moved_kept (renumbered_sound S N) (pair_back S N) (σs s) (moved_in N.species s l) t))
          (moved_kept S N s l);
    }
