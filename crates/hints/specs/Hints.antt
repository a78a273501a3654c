-- What a table of hints answers: the first hint from the slot of the taxon on that leads to a node with it, before the first empty
-- entry. Of this only that it is a function of the tables and the taxon is used, and `ask_at` of proofs/Asked.antt.
--   slot_of_lem t          == where the search for the taxon t begins
--   hits st t h            == does the hint h, a node plus 1, lead to a node that carries t?
--   probe st hints t k at  == what k probes from the entry `at` on find (entry 0 follows entry 511)
--   ask_of st hints t      == what 512 probes from the slot of t on find
-- Assumes nothing.
use Rattle.std.specs.Prelude.{ℕ, zero, suc, ◌+◌, ◌-◌, ◌%◌, Bool, ◌&&◌, List, length, get_or, eqb, ltb, Some, None, Option}
use Rattle.trees.specs.Lists.{pick}
use Rattle.trees.specs.Slots.{slot_in}
use Rattle.trees.specs.Tables.{taxon}
use Rattle.trees.specs.declared.SpeciesNode.{SpeciesNode}

abbrev pub slot_of_lem : ℕ → ℕ
slot_of_lem t = slot_in t 512

unfoldable pub hits : List ℕ → ℕ → ℕ → Bool
hits st t h = ltb (h - 1) (length st) && eqb (taxon st (h - 1)) t

-- one probe, and what follows it
unfoldable pub probed : List ℕ → ℕ → ℕ → Option SpeciesNode → Option SpeciesNode
probed st t h next = pick (eqb h 0) None (pick (hits st t h) (Some (record { 0 = h - 1 })) next)

unfoldable pub probe : List ℕ → List ℕ → ℕ → ℕ → ℕ → Option SpeciesNode
probe st hints t zero at = None
probe st hints t (suc k) at = probed st t (get_or hints (at % 512) 0) (probe st hints t k (at + 1))

unfoldable pub ask_of : List ℕ → List ℕ → ℕ → Option SpeciesNode
ask_of st hints t = probe st hints t 512 (slot_of_lem t)
