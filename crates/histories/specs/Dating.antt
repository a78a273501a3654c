-- When a gene node was duplicated.                                                     (01, "Dating"; 000, observations 1 and 2)
--   Dated             == the answer: not a duplication; from the lower bound on; between the lower and the upper bound
--   Speciated w v u   <-> u is a proper ancestor of v and a speciation
--   IsDated w v d     <-> d dates gene node v
--   latest w v        == the nearest proper ancestor of v that is a speciation; none without one
--   dated w v         == the dating of v in the least history
-- None of it asks how nodes are numbered. Assumes nothing.
use Rattle.std.specs.Prelude.{ℕ, ◌≡◌, ◌≢◌, length, eqb, ltb}
use Rattle.trees.specs.Lists.{first, pick}
use Rattle.trees.specs.Trees.{none, up, line, Below}
use Rattle.trees.specs.Tables.{Pair}
use Rattle.histories.specs.Places.{place}
use Rattle.histories.specs.Histories.{label}

-- "These three kinds of dating answer each carry only their own numbers."
pub data Dated : Type 0 where
  not_duplication : Dated
  from : ℕ → Dated
  between : ℕ → ℕ → Dated

abbrev pub Speciated : Pair → ℕ → ℕ → Type 0
Speciated w v u = Below w.gp u (up w.gp v) × (label w u ≡ 1)

-- "if v isn't a duplication, the answer says so. If it is, the lower bound is M(v). The upper bound is the place of its nearest proper
-- ancestor that is a speciation; without one, the answer says that there is no upper bound."
abbrev pub IsDated : Pair → ℕ → Dated → Type 0
IsDated w v not_duplication = label w v ≢ 2
IsDated w v (from a) = (label w v ≡ 2) × (a ≡ place w v) × ((u : ℕ) → Speciated w v u → ⊥)
IsDated w v (between a b) =
    (label w v ≡ 2) × (a ≡ place w v)
    × ((u : ℕ) × Speciated w v u × ((x : ℕ) → Speciated w v x → Below w.gp x u) × (b ≡ place w u))

unfoldable pub latest : Pair → ℕ → ℕ
latest w v = first (λ u. eqb (label w u) 1) (line w.gp (up w.gp v)) none

unfoldable pub dated : Pair → ℕ → Dated
dated w v =
    pick (eqb (label w v) 2)
    (pick (ltb (latest w v) (length w.gp)) (between (place w v) (place w (latest w v))) (from (place w v)))
    not_duplication
