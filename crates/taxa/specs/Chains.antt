-- Private to the functions of this crate: nodes found by their taxon through chains. A pointer is a node plus 1, or 0 for none. Of
-- these only `Alone` and `AllKnown` are asked of a caller, and nothing is part of a promise.
--   slot_of_lem t                == the chain of a taxon
--   Last tax s b p               <-> p points to the highest node below b in chain s, if any: all between it and b are in other chains
--   FoundBy tax t r              <-> r is a node that carries the taxon t; none does if r is nowhere
--   Chained tax i c              <-> the nodes below i are in the chains c: the heads point to the highest of each, and each node to the
--                                    highest one before it in its chain
--   Entered, Indexed             <-> what entering one node, and all nodes, leaves
--   Alone tax                    <-> no node's taxon stands at a lower node
--   AllKnown st gt               <-> rule 6 at every gene node
-- Assumes nothing.
use Rattle.std.specs.Prelude.{ℕ, ◌+◌, ◌-◌, ◌≤◌, ◌<◌, ◌≡◌, ◌≢◌, Bool, List, length, get_or, T, Some, None, Option}
use Rattle.trees.specs.Rulings.{accepted, fine}
use Rattle.trees.specs.Answers.{judged_of}
use Rattle.trees.specs.Answers.{Judged}
use Rattle.trees.specs.declared.SpeciesNode.{SpeciesNode}
use Rattle.trees.specs.Slots.{slot_in}
use Rattle.trees.specs.Tables.{taxon}
use Rattle.taxa.specs.declared.ByTaxon.{ByTaxon}
use Rattle.taxa.specs.Searches.{fresh_taxon, known_taxon}
use Rattle.taxa.specs.Promises.{JudgeRepeatsMeets}

abbrev pub slot_of_lem : ℕ → ℕ
slot_of_lem t = slot_in t 2048

pub record Last (tax : List ℕ) (s b p : ℕ) : Type 0 where
  pub low : p ≤ b
  pub own : 1 ≤ p → (taxon tax (p - 1) ≢ 0) × (slot_of_lem (taxon tax (p - 1)) ≡ s)
  pub past : (k : ℕ) → p ≤ k → k < b → taxon tax k ≢ 0 → slot_of_lem (taxon tax k) ≢ s

abbrev pub FoundBy : List ℕ → ℕ → Option SpeciesNode → Type 0
FoundBy tax t (Some s) = (s.0 < length tax) × (taxon tax s.0 ≡ t)
FoundBy tax t None = (k : ℕ) → k < length tax → taxon tax k ≢ t

pub record Chained {n : ℕ} (tax : List ℕ) (i : ℕ) (c : ByTaxon n) : Type 0 where
  pub few : n ≤ 2047
  pub room : length tax ≤ n
  pub head : (s : ℕ) → s < 2048 → Last tax s i (get_or c.heads s 0)
  pub link : (j : ℕ) → j < i → taxon tax j ≢ 0 → Last tax (slot_of_lem (taxon tax j)) j (get_or c.earlier j 0)

pub record Entered {n : ℕ} (tax : List ℕ) (i : ℕ) (c : ByTaxon n) (r : Bool) : Type 0 where
  pub test : r ≡ fresh_taxon tax i
  pub chained : T r → Chained tax (i + 1) c

pub record Indexed {n : ℕ} (tax : List ℕ) (c : ByTaxon n) (r : Judged) : Type 0 where
  pub found : JudgeRepeatsMeets tax r
  pub chained : judged_of r ≡ accepted fine → Chained tax (length tax) c

pub record Alone (tax : List ℕ) : Type 0 where
  pub few : length tax ≤ 2047
  pub fresh : (i : ℕ) → i < length tax → T (fresh_taxon tax i)

pub record AllKnown (st gt : List ℕ) : Type 0 where
  pub known : (g : ℕ) → g < length gt → T (known_taxon st gt g)
