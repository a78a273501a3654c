-- Private to the settling of the gene leaves, over the tables of taxa alone; nothing of it is part of a promise.
--   Carries st t s        <-> species node s carries the taxon t
--   Seatable st t         <-> some species node does
--   Asking st gt p        <-> what a round needs: species, not too many, and room
--   Roomy st gt p         <-> what all rounds need: species, not too many, and room
--   Settleable st gt p    <-> what settling needs: each gene taxon is carried besides
--   Seated st gt g p p'   <-> the leaf g is put to a place that carries its taxon, the others are as they were
--   Settled st gt k p p'  <-> the leaves below k are at places that carry their taxa; entries that are no gene node's are as they were
-- Assumes nothing.
use Rattle.std.specs.Prelude.{ℕ, ◌≤◌, ◌<◌, ◌≡◌, ◌≢◌, List, length, get_or}
use Rattle.trees.specs.Tables.{taxon}
use Rattle.fills.specs.Filling.{Kept}

abbrev pub Carries : List ℕ → ℕ → ℕ → Type 0
Carries st t s = (s < length st) × (taxon st s ≡ t)

pub record Seatable (st : List ℕ) (t : ℕ) : Type 0 where
  pub few : length st ≤ 2047
  pub some : (s : ℕ) × Carries st t s

pub record Asking (st gt p : List ℕ) : Type 0 where
  pub few : length st ≤ 2047
  pub room : length gt ≤ length p

pub record Roomy (st gt p : List ℕ) : Type 0 where
  pub some : 1 ≤ length st
  pub few : length st ≤ 2047
  pub room : length gt ≤ length p

pub record Settleable (st gt p : List ℕ) : Type 0 where
  pub roomy : Roomy st gt p
  pub known : (g : ℕ) → g < length gt → taxon gt g ≢ 0 → (s : ℕ) × Carries st (taxon gt g) s

pub record Seated (st gt : List ℕ) (g : ℕ) (p p' : List ℕ) : Type 0 where
  pub kept : Kept (length gt) p p'
  pub here_now : taxon gt g ≢ 0 → Carries st (taxon gt g) (get_or p' g 0)
  pub there : (i : ℕ) → i ≢ g → get_or p' i 0 ≡ get_or p i 0

pub record Settled (st gt : List ℕ) (k : ℕ) (p p' : List ℕ) : Type 0 where
  pub kept : Kept (length gt) p p'
  pub at_home : (g : ℕ) → g < k → taxon gt g ≢ 0 → Carries st (taxon gt g) (get_or p' g 0)
