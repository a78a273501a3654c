-- Where a load is refused: every place has 16 bits, since a table has at most 2,047 nodes and an image at most 65 blocks once their rules are
-- passed.
--   place_fits : a refused load's place is below 65,536
-- Assumes nothing.
use Prim.Native.Nat.{ℕ, ◌<◌, ◌≤◌}
use native.Mathlib.Omega.{arith}
use mathlib.Core.Path.{◌≡◌}
use mathlib.Core.List.{List, ◌++◌}
use lib.ListN.{length}
use Rattle.trees.specs.Tables.{Pair}
use Rattle.trees.specs.Rulings.{refused}
use Rattle.trees.specs.Rules.{species_rules, family_rules}
use Rattle.trees.proofs.Rulings.{every_left}
use Rattle.trees.proofs.Soundness.{sized_is, species_sound}
use Rattle.bounds.proofs.Places.{Placed, none, next, placed_ruling, placed_join, whole_place, each_place, species_placed, family_placed}
use Rattle.histories.specs.Histories.{History, every_node}
use Rattle.histories.specs.Rules.{descent_rules}
use Rattle.blocks.specs.Blocks.{count, content}
use Rattle.blocks.specs.Image.{block_rules}
use Rattle.blocks.proofs.Image.{sized_says}
use Rattle.families.specs.Families.{family_of}
use Rattle.families.specs.Loading.{limit, form_rules, rack_rules, content_rules, open_rules, Lent, entry_rules, stored_pair, stored_history, story_rules, load}
use Rattle.families.proofs.Loaded.{stored_sized, entry_is}

blocks_placed : (s : List ℕ) → Placed (block_rules limit s)
unfolding block_rules
blocks_placed s =
    next (whole_place 13 0 0 _ (omega arith))
    (λ z.
    let h : count s ≤ 65 = (sized_says limit s z).1 in
    let k : count s ≤ 65535 = omega arith in
    next (each_place 14 0 _ _ k) (λ x. next (each_place 15 0 _ _ k) (λ y. none)))

content_placed : (sp st s : List ℕ) → length sp ≤ 2047 → Placed (content_rules sp st s)
unfolding content_rules form_rules rack_rules
content_placed sp st s h =
    let k : length sp ≤ 65535 = omega arith in
    next (whole_place 16 0 0 _ (omega arith))
    (λ x. next (whole_place 17 0 0 _ (omega arith)) (λ y. next (whole_place 18 1 65535 _ (omega arith)) (λ z. next (each_place 18 1 _ _ k) (λ u. none))))

entry_placed : (sp st s : List ℕ) (t : Lent) → Placed (entry_rules sp st s t)
unfolding entry_rules open_rules
entry_placed sp st s t =
    placed_join (open_rules sp st s) _
    (placed_join (species_rules sp st ++ block_rules limit s) (content_rules sp st s)
    (placed_join (species_rules sp st) (block_rules limit s) (species_placed sp st) (λ e. blocks_placed s))
    (λ e. content_placed sp st s ((species_sound sp st).0 (every_left (species_rules sp st) (block_rules limit s) e)).tree.few))
    (λ e. next (whole_place 7 0 0 _ (omega arith)) (λ x. none))

story_placed : (w : Pair) (h : History) → length w.gp ≤ 2047 → Placed (story_rules w h)
unfolding story_rules descent_rules
story_placed w h l =
    let k : length w.gp ≤ 65535 = omega arith in
    placed_join (family_rules w) (descent_rules w every_node h) (family_placed w l)
    (λ e. next (each_place 8 2 _ _ k) (λ x. next (each_place 9 2 _ _ k) (λ y. next (each_place 10 2 _ _ k) (λ z. next (each_place 11 2 _ _ k) (λ u. none)))))

pub place_fits : (sp st s : List ℕ) (t : Lent) (n m v : ℕ) → (load sp st s t).answer ≡ refused n m v → v < 65536
unfolding load
place_fits sp st s t n m v e =
    let f = family_of (content s) in
    placed_ruling (entry_rules sp st s t ++ story_rules (stored_pair sp st f) (stored_history f))
    (placed_join (entry_rules sp st s t) _ (entry_placed sp st s t)
    (λ p. story_placed (stored_pair sp st f) (stored_history f) (sized_is f.gp f.gt (stored_sized sp st s ((entry_is sp st s t).0 p).0)).few))
    _ n m v e
