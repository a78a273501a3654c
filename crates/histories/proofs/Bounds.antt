-- How large the counts can get.                        (01, "Climbs and losses are each at most 2,093,058", "The cost fits 64 bits")
-- Assumes nothing.
use Prim.Native.Nat.{ℕ, zero, suc, ◌-◌, ◌*◌, ◌^◌, ◌≤◌, ◌<◌}
use native.Mathlib.Omega.{arith}
use native.Mathlib.Nat.{mul-le-mul}
use mathlib.Core.Path.{◌≡◌, refl}
use mathlib.Core.Bool.{Bool, true, false}
use mathlib.Core.List.{List}
use lib.ListN.{length}
use lib.Dec.{eqb}
use Rattle.trees.specs.Lists.{range, total, one}
use Rattle.trees.specs.Trees.{up, line, nodes, kids, depth}
use Rattle.trees.specs.Tables.{Pair}
use Rattle.trees.specs.Sound.{Sound}
use Rattle.trees.proofs.Lists.{total_le}
use Rattle.trees.proofs.Kids.{has_kids, sum_kids}
use Rattle.trees.proofs.Shape.{inner_count, depth_few}
use Rattle.trees.proofs.Sound.{trees}
use Rattle.histories.specs.Histories.{History, least, every_node, edge, losses_at, losses, climbs_at, climbs, duplications, speciations, cost, losses_in, climbs_in}
use Rattle.histories.proofs.Places.{place_node}

one_le : (b : Bool) → one b ≤ 1
unfolding one
one_le true = omega arith
one_le false = omega arith

-- to count fewer ancestors makes no node deeper
depth_counted : (par : List ℕ) (counted : ℕ → Bool) (s : ℕ) → depth par counted s ≤ depth par (λ x. true) s
unfolding depth one
depth_counted par counted s = total_le (λ x. one (counted x)) (λ x. 1) (line par (up par s)) (λ x t. one_le (counted x))

total_1023 : (i n : ℕ) → total (λ x. 1023) (range i n) ≡ 1023 * n
unfolding total range
total_1023 i zero = refl
total_1023 i (suc n) = omega (arith, total_1023 (suc i) n)

total_ones : (p : ℕ → Bool) (i n : ℕ) → total (λ x. one (p x)) (range i n) ≤ n
unfolding total range
total_ones p i zero = omega arith
total_ones p i (suc n) = omega (arith, one_le (p i), total_ones p (suc i) n)

-- ---- how many nodes carry a label

module _ (gp : List ℕ) (h : History) where
  pub duplications_few : duplications gp h ≤ length gp
  unfolding duplications nodes
  duplications_few = total_ones (λ g. eqb (h.kind g) 2) 0 (length gp)

  pub speciations_few : speciations gp h ≤ length gp
  unfolding speciations nodes
  speciations_few = total_ones (λ g. eqb (h.kind g) 1) 0 (length gp)

module _ {w : Pair} (S : Sound w) where
  -- of at most 2,047 species nodes at most 1,023 are inner, and a node's proper ancestors are
  pub depth_small : (counted : ℕ → Bool) (s : ℕ) → s < length w.sp → depth w.sp counted s ≤ 1023
  depth_small counted s l =
      omega (
        arith,
        depth_counted w.sp counted s,
        depth_few (trees S).s (trees S).s_two s l,
        inner_count (trees S).s (trees S).s_two,
        S.species.tree.few,
      )

  -- a count of at most 1,023 on each of at most 2,046 edges
  edges_few : (f : ℕ → ℕ → ℕ) → ((g c : ℕ) → c < length w.gp → f g c ≤ 1023) → total (λ g. total (f g) (kids w.gp g)) (nodes w.gp) ≤ 2093058
  unfolding nodes
  edges_few f b =
      omega (
        arith,
        total_le (λ g. total (f g) (kids w.gp g)) (λ g. total (λ c. 1023) (kids w.gp g)) (nodes w.gp)
            (λ g t. total_le (f g) (λ c. 1023) (kids w.gp g) (λ c s. b g c (has_kids w.gp s).0)),
        sum_kids (trees S).g (λ c. 1023),
        total_1023 0 (length w.gp),
        S.genes.few,
      )

  module _ (counted : ℕ → Bool) (h : History) (N : (g : ℕ) → g < length w.gp → h.at g < length w.sp) where
    pub losses_few : losses (depth w.sp counted) w.gp h ≤ 2093058
    unfolding losses losses_at edge
    losses_few =
        edges_few (edge (depth w.sp counted) h) (λ g c l. omega (arith, depth_small counted (h.at c) (N c l)))

    pub climbs_few : climbs (depth w.sp counted) w.gp h ≤ 2093058
    unfolding climbs climbs_at
    climbs_few =
        let d = depth w.sp counted in
        edges_few (λ g c. d (h.at c) - d (h.at g)) (λ g c l. omega (arith, depth_small counted (h.at c) (N c l)))

  pub least_losses_few : losses_in w (least w) ≤ 2093058
  least_losses_few = losses_few every_node (least w) (place_node S)

  pub least_climbs_few : climbs_in w ≤ 2093058
  least_climbs_few = climbs_few every_node (least w) (place_node S)

pub cost_fits : (dw lw ds ls : ℕ) → dw ≤ 65535 → lw ≤ 65535 → ds ≤ 2047 → ls ≤ 2093058 → cost dw lw ds ls < 2 ^ 64
unfolding cost
cost_fits dw lw ds ls a b c e = omega (arith, mul-le-mul {n₁ = dw} {m₁ = ds} {n₂ = 65535} {m₂ = 2047} a c, mul-le-mul {n₁ = lw} {m₁ = ls} {n₂ = 65535} {m₂ = 2093058} b e)
