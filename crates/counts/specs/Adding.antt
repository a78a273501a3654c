-- What the gene nodes of a history count, whoever tells the steps from each one's place up to its parent's place.
--   kinds_to labels k n == how many of the first n gene nodes have label k
--   Addable pre post labels s <-> what the adding up needs: `steps` may be asked for each gene node, and answers what s says; the steps
--                                 fit together, and are enough for two less at each speciation
--   Added labels s r    <-> r is what the labels and the steps s add up to
-- Assumes nothing.
use Rattle.std.specs.Prelude.{ℕ, ◌-◌, ◌*◌, ◌≤◌, ◌<◌, ◌≡◌, List, length, get_or, eqb}
use Rattle.trees.specs.Lists.{range, total, one}
use Rattle.trees.specs.declared.GeneNode.{GeneNode}
use Rattle.counts.specs.declared.Tally.{Tally}

abbrev pub kinds_to : List ℕ → ℕ → ℕ → ℕ
kinds_to labels k n = total (λ g. one (eqb (get_or labels g 0) k)) (range 0 n)

pub record Addable (pre : GeneNode → Type 0) (post : GeneNode → ℕ → Type 0) (labels : List ℕ) (s : ℕ → ℕ) : Type 0 where
  pub asked : (g : GeneNode) → g.0 < length labels → pre g
  pub told : (g : GeneNode) (r : ℕ) → g.0 < length labels → post g r → r ≡ s g.0
  pub few : length labels < 4294967296
  pub fits : total s (range 0 (length labels)) < 4294967296
  pub enough : 2 * kinds_to labels 1 (length labels) ≤ total s (range 0 (length labels))

pub record Added (labels : List ℕ) (s : ℕ → ℕ) (r : Tally) : Type 0 where
  pub duplications : r.duplications ≡ kinds_to labels 2 (length labels)
  pub losses : r.losses ≡ total s (range 0 (length labels)) - 2 * kinds_to labels 1 (length labels)
  pub speciations : r.speciations ≡ kinds_to labels 1 (length labels)
  pub climbs : r.climbs ≡ total s (range 0 (length labels))
