-- The tests behind refusals 7 to 11 and 19, their order, and what three calls answer.   (01, "Refusal numbers")
--   roomy w places labels  == 7: "a lent place, label or gene table has under q entries"
--   fitting w counted h g  == 8: "place not under p, or label wrong in kind"; placed and right_kind are its two halves
--   homed w h g            == 9: "leaf not at its species"
--   nested w h c           == 10: "node not at or below its parent's place"
--   parted w h g           == 11: "speciation without one child on either side"
--   descent_rules w counted h == 8 to 11 in order
--   least_rules, offer_rules, dating_rules == the rules of the least history, of an offered history, of dating, in 01's order
--   Counts, OfferCounts    == what the least history, and an offered history, count
--   least_ruling, offer_ruling, dating_ruling == what the three calls answer
-- Each test holds where nothing is refused. None of it asks how nodes are numbered. Assumes nothing.
use Rattle.std.specs.Prelude.{ℕ, Bool, ◌&&◌, ◌||◌, not, List, [], ◌∷◌, ◌++◌, length, eqb, ltb, leb}
use Rattle.trees.specs.Trees.{up, kid, is_leaf}
use Rattle.trees.specs.Tables.{Pair, home}
use Rattle.trees.specs.Lists.{pick}
use Rattle.trees.specs.Rulings.{Ruling, Rule, whole, each, ruling}
use Rattle.trees.specs.Rules.{pair_rules}
use Rattle.histories.specs.Places.{below}
use Rattle.histories.specs.Histories.{History, told, least, every_node, duplications, speciations, cost, losses_in, climbs_in}
use Rattle.histories.specs.Dating.{Dated, dated}

unfoldable pub roomy : Pair → List ℕ → List ℕ → Bool
roomy w places labels = leb (length w.gp) (length places) && leb (length w.gp) (length labels)

unfoldable pub placed : Pair → (ℕ → Bool) → History → ℕ → Bool
placed w counted h g = ltb (h.at g) (length w.sp) && counted (h.at g)

unfoldable pub right_kind : Pair → History → ℕ → Bool
right_kind w h g = pick (is_leaf w.gp g) (eqb (h.kind g) 0) (eqb (h.kind g) 1 || eqb (h.kind g) 2)

unfoldable pub fitting : Pair → (ℕ → Bool) → History → ℕ → Bool
fitting w counted h g = placed w counted h g && right_kind w h g

unfoldable pub homed : Pair → History → ℕ → Bool
homed w h g = not (is_leaf w.gp g) || eqb (h.at g) (home w g)

unfoldable pub nested : Pair → History → ℕ → Bool
nested w h c = not (ltb (up w.gp c) (length w.gp)) || below w.sp (h.at (up w.gp c)) (h.at c)

-- x and y lie on different sides of s: the test of Apart
unfoldable pub apart : List ℕ → ℕ → ℕ → ℕ → Bool
apart sp s x y = (below sp (kid sp s 0) x && below sp (kid sp s 1) y) || (below sp (kid sp s 1) x && below sp (kid sp s 0) y)

unfoldable pub parted : Pair → History → ℕ → Bool
parted w h g = not (eqb (h.kind g) 1) || apart w.sp (h.at g) (h.at (kid w.gp g 0)) (h.at (kid w.gp g 1))

unfoldable pub descent_rules : Pair → (ℕ → Bool) → History → List Rule
descent_rules w counted h =
    each 8 2 (length w.gp) (fitting w counted h)
    ∷ each 9 2 (length w.gp) (homed w h)
    ∷ each 10 2 (length w.gp) (nested w h)
    ∷ each 11 2 (length w.gp) (parted w h)
    ∷ []

-- "least history 7"
unfoldable pub least_rules : Pair → List ℕ → List ℕ → List Rule
least_rules w places labels = pair_rules w ++ whole 7 0 0 (roomy w places labels) ∷ []

-- "offered history 7, 8-11"
unfoldable pub offer_rules : Pair → List ℕ → List ℕ → List Rule
offer_rules w places labels = pair_rules w ++ whole 7 0 0 (roomy w places labels) ∷ descent_rules w every_node (told places labels)

-- "dating 19"
unfoldable pub dating_rules : Pair → ℕ → List Rule
dating_rules w v = pair_rules w ++ whole 19 2 0 (ltb v (length w.gp)) ∷ []

pub record Counts : Type 0 where
  pub duplications : ℕ
  pub losses : ℕ
  pub speciations : ℕ
  pub climbs : ℕ
  pub cost : ℕ

pub record OfferCounts : Type 0 where
  pub duplications : ℕ
  pub losses : ℕ
  pub speciations : ℕ

unfoldable pub least_counts : Pair → ℕ → ℕ → Counts
least_counts w dw lw =
    record {
      duplications = duplications w.gp (least w);
      losses = losses_in w (least w);
      speciations = speciations w.gp (least w);
      climbs = climbs_in w;
      cost = cost dw lw (duplications w.gp (least w)) (losses_in w (least w));
    }

unfoldable pub offer_counts : Pair → History → OfferCounts
offer_counts w h = record { duplications = duplications w.gp h; losses = losses_in w h; speciations = speciations w.gp h }

-- the lent tables places and labels, the weights dw and lw
unfoldable pub least_ruling : Pair → List ℕ → List ℕ → ℕ → ℕ → Ruling Counts
least_ruling w places labels dw lw = ruling (least_rules w places labels) (least_counts w dw lw)

unfoldable pub offer_ruling : Pair → List ℕ → List ℕ → Ruling OfferCounts
offer_ruling w places labels = ruling (offer_rules w places labels) (offer_counts w (told places labels))

unfoldable pub dating_ruling : Pair → ℕ → Ruling Dated
dating_ruling w v = ruling (dating_rules w v) (dated w v)
