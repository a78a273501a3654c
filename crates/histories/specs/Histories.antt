-- Histories, the least one, and what they count.                                        (01, "The least history")
--   History            == a place and a label for each gene node; labels: "0 leaf, 1 speciation, 2 duplication"
--   told places labels == the history that two tables tell
--   Agree w h k        <-> h and k have the same place and label at every gene node
--   label w g          == the label of g in the least history                          (003, definition 2)
--   least w            == the least history
--   least_places w, least_labels w == its tables, as the call writes them
--   every_node         == the counted set of the base: every species node
--   depth_in w s       == the depth of species node s                                   (01, "Depths are those of the whole species tree")
--   edge d h g c       == the losses on the edge from g down to its child c
--   losses_at d gp h g == the losses on the edges from g down; a leaf has none
--   losses d gp h      == "the sum over all edges"
--   climbs_at d gp h g == the climbs at g; a leaf has none
--   climbs d gp h      == "Total over inner nodes"
--   duplications gp h, speciations gp h == how many gene nodes h labels so
--   cost dw lw ds ls   == "dw × duplications + lw × losses"
--   losses_in w h, climbs_in w == the losses of h and the climbs of the least history, by depth_in
-- d is a depth of species nodes; where it is `depth w.sp counted`, only the proper ancestors in the set `counted` count. None of it
-- asks how nodes are numbered. Assumes nothing.
use Rattle.std.specs.Prelude.{ℕ, ◌+◌, ◌-◌, ◌*◌, ◌<◌, ◌≡◌, Bool, true, List, map, length, get_or, eqb}
use Rattle.trees.specs.Lists.{any, total, one, pick}
use Rattle.trees.specs.Trees.{nodes, kids, is_leaf, depth}
use Rattle.trees.specs.Tables.{Pair}
use Rattle.histories.specs.Places.{place}

-- "a place and a label for each gene node"
pub record History : Type 0 where
  pub at : ℕ → ℕ
  pub kind : ℕ → ℕ

-- "in two tables of 16-bit entries of which the first q count"
abbrev pub told : List ℕ → List ℕ → History
told places labels = record { at = λ g. get_or places g 0; kind = λ g. get_or labels g 0 }

abbrev pub Agree : Pair → History → History → Type 0
Agree w h k = (g : ℕ) → g < length w.gp → (h.at g ≡ k.at g) × (h.kind g ≡ k.kind g)

-- "g is a duplication exactly if M(g) equals the place of one of its children or both; otherwise a speciation."
unfoldable pub label : Pair → ℕ → ℕ
label w g = pick (is_leaf w.gp g) 0 (pick (any (λ c. eqb (place w c) (place w g)) (kids w.gp g)) 2 1)

abbrev pub least : Pair → History
least w = record { at = place w; kind = label w }

unfoldable pub least_places : Pair → List ℕ
least_places w = map (place w) (nodes w.gp)

unfoldable pub least_labels : Pair → List ℕ
least_labels w = map (label w) (nodes w.gp)

abbrev pub every_node : ℕ → Bool
every_node s = true

abbrev pub depth_in : Pair → ℕ → ℕ
depth_in w = depth w.sp every_node

-- "each edge from inner g down to child c counts depth(place of c) − depth(place of g), less 1 if g is labelled speciation";
-- in a legal history nothing is cut off at 0 (proofs/Counts.antt, edge_exact)
unfoldable pub edge : (ℕ → ℕ) → History → ℕ → ℕ → ℕ
edge d h g c = d (h.at c) - d (h.at g) - one (eqb (h.kind g) 1)

unfoldable pub losses_at : (ℕ → ℕ) → List ℕ → History → ℕ → ℕ
losses_at d gp h g = total (edge d h g) (kids gp g)

-- "The total is the sum over all edges. No loss is counted above the gene root."
unfoldable pub losses : (ℕ → ℕ) → List ℕ → History → ℕ
losses d gp h = total (losses_at d gp h) (nodes gp)

-- "at g, the steps from the first child's place up to M(g) plus those from the second child's"
unfoldable pub climbs_at : (ℕ → ℕ) → List ℕ → History → ℕ → ℕ
climbs_at d gp h g = total (λ c. d (h.at c) - d (h.at g)) (kids gp g)

-- "Total over inner nodes."
unfoldable pub climbs : (ℕ → ℕ) → List ℕ → History → ℕ
climbs d gp h = total (climbs_at d gp h) (nodes gp)

unfoldable pub duplications : List ℕ → History → ℕ
duplications gp h = total (λ g. one (eqb (h.kind g) 2)) (nodes gp)

unfoldable pub speciations : List ℕ → History → ℕ
speciations gp h = total (λ g. one (eqb (h.kind g) 1)) (nodes gp)

-- "Cost = dw × duplications + lw × losses."
unfoldable pub cost : ℕ → ℕ → ℕ → ℕ → ℕ
cost dw lw ds ls = dw * ds + lw * ls

abbrev pub losses_in : Pair → History → ℕ
losses_in w h = losses (depth_in w) w.gp h

abbrev pub climbs_in : Pair → ℕ
climbs_in w = climbs (depth_in w) w.gp (least w)
