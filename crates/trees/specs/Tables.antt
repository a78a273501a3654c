-- The tables of two trees, and what a taxon means in them.
--   taxon tax i       == the taxon entry of node i
--   carrier sp st t   == the lowest species leaf whose taxon is t; none if there is none
--   Pair              == the tables handed in: species parents and taxa, gene parents and taxa
--   pair_of w         == the same, of what is handed to a function
--   home w x          == the species leaf of the taxon of gene node x                 (01, "the species leaf of its taxon")
-- Assumes nothing.
use Rattle.std.specs.Prelude.{ℕ, ◌&&◌, List, get_or, eqb}
use Rattle.trees.specs.Lists.{first}
use Rattle.trees.specs.Trees.{none, nodes, is_leaf}
use Rattle.trees.specs.declared.Trees.{Trees}

abbrev pub taxon : List ℕ → ℕ → ℕ
taxon tax i = get_or tax i 0

unfoldable pub carrier : List ℕ → List ℕ → ℕ → ℕ
carrier sp st t = first (λ s. is_leaf sp s && eqb (taxon st s) t) (nodes sp) none

pub record Pair : Type 0 where
  pub sp : List ℕ
  pub st : List ℕ
  pub gp : List ℕ
  pub gt : List ℕ

abbrev pub pair : List ℕ → List ℕ → List ℕ → List ℕ → Pair
pair sp st gp gt = record { sp = sp; st = st; gp = gp; gt = gt }

abbrev pub pair_of : Trees → Pair
pair_of w = pair w.species.parents.now w.species.taxa.now w.genes.parents.now w.genes.taxa.now

unfoldable pub home : Pair → ℕ → ℕ
home w x = carrier w.sp w.st (taxon w.gt x)
