-- The same history of the same trees under other numbers.                              (02, W8: "All demands hold as before")
--   Carried w h h' σs σg <-> h' is the history h of w with species node s numbered σs s and gene node g numbered σg g
--   carried σs ρg h      == that history; ρg gives the old number of a gene node
--   SameSet sp c c' σs   <-> c' counts the new number of a species node exactly if c counts the node
--   SameCounts d d' w w' h h' <-> h for w and h' for w' have the same duplications, speciations, losses, climbs and cost; d and d' are
--                           the depths of species nodes in w and in w'
-- Assumes nothing.
use Rattle.std.specs.Prelude.{ℕ, ◌<◌, ◌≡◌, Bool, List, length}
use Rattle.trees.specs.Tables.{Pair}
use Rattle.histories.specs.Histories.{History, losses, climbs, duplications, speciations, cost}

pub record Carried (w : Pair) (h h' : History) (σs σg : ℕ → ℕ) : Type 0 where
  pub places : (g : ℕ) → g < length w.gp → h'.at (σg g) ≡ σs (h.at g)
  pub labels : (g : ℕ) → g < length w.gp → h'.kind (σg g) ≡ h.kind g

abbrev pub carried : (σs ρg : ℕ → ℕ) → History → History
carried σs ρg h = record { at = λ g. σs (h.at (ρg g)); kind = λ g. h.kind (ρg g) }

pub record SameSet (sp : List ℕ) (c c' : ℕ → Bool) (σs : ℕ → ℕ) : Type 0 where
  pub same : (s : ℕ) → s < length sp → c' (σs s) ≡ c s

pub record SameCounts (d d' : ℕ → ℕ) (w w' : Pair) (h h' : History) : Type 0 where
  pub same_duplications : duplications w'.gp h' ≡ duplications w.gp h
  pub same_speciations : speciations w'.gp h' ≡ speciations w.gp h
  pub same_losses : losses d' w'.gp h' ≡ losses d w.gp h
  pub same_climbs : climbs d' w'.gp h' ≡ climbs d w.gp h
  pub same_cost : (dw lw : ℕ) → cost dw lw (duplications w'.gp h') (losses d' w'.gp h') ≡ cost dw lw (duplications w.gp h) (losses d w.gp h)
