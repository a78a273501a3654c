-- The same tree under other numbers.                                               (02, W8: "Accept any numbering ..")
--   Renumbering n σ ρ        <-> σ carries the numbers below n to numbers below n, each to its own, and ρ carries them back
--   Renumbered par par' σ ρ  <-> par' is the tree of par with node x numbered σ x
--   CarriedTaxa par tax tax' σ <-> node x has in tax the taxon that its new number σ x has in tax'; both tables have an entry a node
--   RenumberedPair w w' σs ρs σg ρg <-> w' is the pair w with species node s numbered σs s and gene node g numbered σg g
-- Assumes nothing.
use Rattle.std.specs.Prelude.{ℕ, ◌≤◌, ◌<◌, ◌≡◌, List, length}
use Rattle.trees.specs.Trees.{none, up}
use Rattle.trees.specs.Tables.{taxon, Pair}

pub record Renumbering (n : ℕ) (σ ρ : ℕ → ℕ) : Type 0 where
  pub there : (x : ℕ) → x < n → σ x < n
  pub back : (x : ℕ) → x < n → ρ x < n
  pub there_back : (x : ℕ) → x < n → σ (ρ x) ≡ x
  pub back_there : (x : ℕ) → x < n → ρ (σ x) ≡ x

-- the parent of a node is carried along, and a node without one stays without
pub record Renumbered (par par' : List ℕ) (σ ρ : ℕ → ℕ) : Type 0 where
  pub size : length par' ≡ length par
  pub numbers : Renumbering (length par) σ ρ
  pub parents : (x : ℕ) → x < length par → up par x < length par → up par' (σ x) ≡ σ (up par x)
  pub tops : (x : ℕ) → x < length par → length par ≤ up par x → up par' (σ x) ≡ none

pub record CarriedTaxa (par tax tax' : List ℕ) (σ : ℕ → ℕ) : Type 0 where
  pub even : length tax ≡ length par
  pub even' : length tax' ≡ length par
  pub taxa : (x : ℕ) → x < length par → taxon tax' (σ x) ≡ taxon tax x

pub record RenumberedPair (w w' : Pair) (σs ρs σg ρg : ℕ → ℕ) : Type 0 where
  pub species : Renumbered w.sp w'.sp σs ρs
  pub species_taxa : CarriedTaxa w.sp w.st w'.st σs
  pub genes : Renumbered w.gp w'.gp σg ρg
  pub gene_taxa : CarriedTaxa w.gp w.gt w'.gt σg
