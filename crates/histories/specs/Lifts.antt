-- By how much an offered history lies above the least one.
--   inner_nodes par   == the inner nodes
--   root par          == the node without a parent
--   lift d w h g      == our depth of g's place less the offered depth
--   extra w h g       == 1 if only the offer calls g a duplication, else 0
--   lifts d w h       == the sum of the lifts over inner gene nodes
--   extras w h        == how many gene nodes only the offer calls duplications
-- The losses of a legal history beyond the least are lifts + lift of the root + 2 * extras (proofs/Beyond.antt). Assumes nothing.
use Rattle.std.specs.Prelude.{ℕ, ◌-◌, ◌&&◌, not, List, length, eqb, ltb}
use Rattle.trees.specs.Lists.{keep_if, first, total, one}
use Rattle.trees.specs.Trees.{none, up, nodes, is_leaf}
use Rattle.trees.specs.Tables.{Pair}
use Rattle.histories.specs.Places.{place}
use Rattle.histories.specs.Histories.{History, label}

unfoldable pub inner_nodes : List ℕ → List ℕ
inner_nodes par = keep_if (λ g. not (is_leaf par g)) (nodes par)

unfoldable pub root : List ℕ → ℕ
root par = first (λ g. not (ltb (up par g) (length par))) (nodes par) none

unfoldable pub lift : (ℕ → ℕ) → Pair → History → ℕ → ℕ
lift d w h g = d (place w g) - d (h.at g)

unfoldable pub extra : Pair → History → ℕ → ℕ
extra w h g = one (eqb (h.kind g) 2 && not (eqb (label w g) 2))

unfoldable pub lifts : (ℕ → ℕ) → Pair → History → ℕ
lifts d w h = total (lift d w h) (inner_nodes w.gp)

unfoldable pub extras : Pair → History → ℕ
extras w h = total (extra w h) (nodes w.gp)
