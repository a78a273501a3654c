-- What 01 asks of the tables, in the words of "The trees and how they are handed in", with the numbering of 02's W8.
--   SoundTree par tax <-> the two tables are a tree, in any numbering
--   Treelike par      <-> par is the parents table of a tree
--   Distinct sp st    <-> no taxon stands twice among the species leaves
--   Known w           <-> each gene leaf's taxon is the taxon of a species leaf
--   Sound w           <-> all of it, for both trees
-- Assumes nothing.
use Rattle.std.specs.Prelude.{ℕ, ◌≤◌, ◌<◌, ◌≡◌, ◌⊎◌, ◌≢◌, List, length}
use Rattle.trees.specs.Trees.{none, up, above, Leaf, Inner}
use Rattle.trees.specs.Tables.{taxon, Pair}

-- "A tree has n nodes, 1 to 2,047 .. It comes as two tables of n entries."
-- "Accept any numbering with exactly one 65,535 entry, all others under n, and every node reaching that root." (02, W8)
-- "Every node has two children or none."
-- "A leaf has a non-zero taxon number; an inner node has 0."
pub record SoundTree (par tax : List ℕ) : Type 0 where
  pub some : 1 ≤ length par
  pub few : length par ≤ 2047
  pub even : length tax ≡ length par
  pub root : ℕ
  pub root_in : root < length par
  pub root_up : up par root ≡ none
  pub others : (i : ℕ) → i < length par → i ≢ root → up par i < length par
  pub reach : (i : ℕ) → i < length par → (k : ℕ) × (above par k i ≡ root)
  pub two : (i : ℕ) → i < length par → Leaf par i ⊎ Inner par i
  pub leaf_tax : (i : ℕ) → i < length par → Leaf par i → taxon tax i ≢ 0
  pub inner_tax : (i : ℕ) → i < length par → Inner par i → taxon tax i ≡ 0

abbrev pub Treelike : List ℕ → Type 0
Treelike par = (tax : List ℕ) × SoundTree par tax

-- "In the species tree no taxon stands twice."
abbrev pub Distinct : List ℕ → List ℕ → Type 0
Distinct sp st = (i j : ℕ) → i < length sp → j < length sp → Leaf sp i → Leaf sp j → taxon st i ≡ taxon st j → i ≡ j

-- "In the gene tree a taxon may stand many times, and each must be the taxon of a species leaf."
abbrev pub Known : Pair → Type 0
Known w = (x : ℕ) → x < length w.gp → Leaf w.gp x → (s : ℕ) × (s < length w.sp) × Leaf w.sp s × (taxon w.st s ≡ taxon w.gt x)

pub record SoundSpecies (sp st : List ℕ) : Type 0 where
  pub tree : SoundTree sp st
  pub once : Distinct sp st

pub record Sound (w : Pair) : Type 0 where
  pub species : SoundSpecies w.sp w.st
  pub genes : SoundTree w.gp w.gt
  pub known : Known w
