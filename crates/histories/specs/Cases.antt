-- The starred cases, on one small release.                                             (01, "Cases on one small release")
--   Call             == what is asked: the least history at weights 1 and 1, the dating of a gene node, the judging of an offered history
--   Answer           == what the call answers: a history's counts and tables, a dating, an offer's counts; or a refusal
--   Case             == a gene tree, a call, and the answer that 01 gives
--   answer c, expected c == what the definitions answer to the call of c; what 01 does
--   starred          == the ten rows marked *, in 01's order; the fifth is two cases, the history and the dating
--   starred_right    :  each case of the list is answered as 01 says
-- Species parents 65535 0 1 1 0, taxa 0 0 11 12 13 throughout. Numbers that a row leaves out (a count, a cost) are worked out by hand.
-- Assumes nothing.
use Rattle.std.specs.Prelude.{ℕ, ◌≡◌, refl, List, [], ◌∷◌, map, length, replicate}
use Rattle.std.proofs.Math.Option.{Option, none, some}
use Rattle.trees.specs.Lists.{range, cons_if, keep_if, has, all, any, pick, first, total, one, lowest}
use Rattle.trees.specs.Trees.{up, is_root, climb, line, nodes, kids, kid, is_leaf, depth}
use Rattle.trees.specs.Tables.{Pair, pair, carrier, home}
use Rattle.trees.specs.Rulings.{Ruling, accepted, refused, ruling}
use Rattle.trees.specs.Rules.{sized, parented, topped, reaching, paired, marked, fresh, known, root_rules, child_rules, shape_rules, species_rules, family_rules, gene_rules, pair_rules}
use Rattle.histories.specs.Places.{below, leaves, holds, place}
use Rattle.histories.specs.Histories.{label, least_places, least_labels, edge, losses_at, losses, climbs_at, climbs, duplications, speciations, cost}
use Rattle.histories.specs.Dating.{Dated, between, latest, dated}
use Rattle.histories.specs.Rules.{roomy, placed, right_kind, fitting, homed, nested, apart, parted, descent_rules, least_rules, offer_rules, dating_rules, Counts, OfferCounts, least_counts, offer_counts, least_ruling, offer_ruling, dating_ruling}

pub data Call : Type 0 where
  history : Call
  dating : ℕ → Call
  -- "Places or labels that an offered case doesn't name are the least history's."
  offer : Option (List ℕ) → Option (List ℕ) → Call

pub data Answer : Type 0 where
  -- counts, places, labels
  found : Ruling Counts → List ℕ → List ℕ → Answer
  dated_as : Ruling Dated → Answer
  judged : Ruling OfferCounts → Answer

-- gene parents, gene taxa, the call, the answer
pub data Case : Type 0 where
  case : List ℕ → List ℕ → Call → Answer → Case

unfoldable pub named : List ℕ → Option (List ℕ) → List ℕ
named d none = d
named d (some l) = l

unfoldable pub answer_to : Pair → Call → Answer
answer_to w history = found (least_ruling w (replicate (length w.gp) 0) (replicate (length w.gp) 0) 1 1) (least_places w) (least_labels w)
answer_to w (dating v) = dated_as (dating_ruling w v)
answer_to w (offer places labels) = judged (offer_ruling w (named (least_places w) places) (named (least_labels w) labels))

unfoldable pub answer : Case → Answer
answer (case gp gt call says) = answer_to (pair (65535 ∷ 0 ∷ 1 ∷ 1 ∷ 0 ∷ []) (0 ∷ 0 ∷ 11 ∷ 12 ∷ 13 ∷ []) gp gt) call

unfoldable pub expected : Case → Answer
expected (case gp gt call says) = says

-- duplications, losses, speciations, climbs, cost, as the program prints them
unfoldable pub counts : ℕ → ℕ → ℕ → ℕ → ℕ → Ruling Counts
counts ds ls ss cs co = accepted (record { duplications = ds; losses = ls; speciations = ss; climbs = cs; cost = co })

-- duplications, losses, speciations
unfoldable pub legal : ℕ → ℕ → ℕ → Answer
legal ds ls ss = judged (accepted (record { duplications = ds; losses = ls; speciations = ss }))

unfoldable pub starred : List Case
starred =
    -- places 0 1 2 3 4, labels 1 1 0 0 0, losses 0, climbs 4
    case (65535 ∷ 0 ∷ 1 ∷ 1 ∷ 0 ∷ []) (0 ∷ 0 ∷ 11 ∷ 12 ∷ 13 ∷ []) history
    (found (counts 0 0 2 4 0) (0 ∷ 1 ∷ 2 ∷ 3 ∷ 4 ∷ []) (1 ∷ 1 ∷ 0 ∷ 0 ∷ 0 ∷ []))
    -- as printed: 0 0 D, 1 0 S, 2 2 L, 3 4 L, 4 3 L; 1 3 1 5 4
    ∷ case (65535 ∷ 0 ∷ 1 ∷ 1 ∷ 0 ∷ []) (0 ∷ 0 ∷ 11 ∷ 13 ∷ 12 ∷ []) history
    (found (counts 1 3 1 5 4) (0 ∷ 0 ∷ 2 ∷ 4 ∷ 3 ∷ []) (2 ∷ 1 ∷ 0 ∷ 0 ∷ 0 ∷ []))
    -- places 2 2 2, one duplication, losses 0
    ∷ case (65535 ∷ 0 ∷ 0 ∷ []) (0 ∷ 11 ∷ 11 ∷ []) history
    (found (counts 1 0 0 0 1) (2 ∷ 2 ∷ 2 ∷ []) (2 ∷ 0 ∷ 0 ∷ []))
    -- places 1 2 1 2 3, labels 2 0 1 0 0, losses 1, climbs 3
    ∷ case (65535 ∷ 0 ∷ 0 ∷ 2 ∷ 2 ∷ []) (0 ∷ 11 ∷ 0 ∷ 11 ∷ 12 ∷ []) history
    (found (counts 1 1 1 3 2) (1 ∷ 2 ∷ 1 ∷ 2 ∷ 3 ∷ []) (2 ∷ 0 ∷ 1 ∷ 0 ∷ 0 ∷ []))
    -- losses 1, climbs 3; node 1 dated from 2 up to 0
    ∷ case (65535 ∷ 0 ∷ 1 ∷ 1 ∷ 0 ∷ []) (0 ∷ 0 ∷ 11 ∷ 11 ∷ 13 ∷ []) history
    (found (counts 1 1 1 3 2) (0 ∷ 2 ∷ 2 ∷ 2 ∷ 4 ∷ []) (1 ∷ 2 ∷ 0 ∷ 0 ∷ 0 ∷ []))
    ∷ case (65535 ∷ 0 ∷ 1 ∷ 1 ∷ 0 ∷ []) (0 ∷ 0 ∷ 11 ∷ 11 ∷ 13 ∷ []) (dating 1) (dated_as (accepted (between 2 0)))
    -- place 2, all counts 0
    ∷ case (65535 ∷ []) (11 ∷ []) history (found (counts 0 0 0 0 0) (2 ∷ []) (0 ∷ []))
    -- first tree, offered labels 2 1 0 0 0: legal, losses 2
    ∷ case (65535 ∷ 0 ∷ 1 ∷ 1 ∷ 0 ∷ []) (0 ∷ 0 ∷ 11 ∷ 12 ∷ 13 ∷ []) (offer none (some (2 ∷ 1 ∷ 0 ∷ 0 ∷ 0 ∷ []))) (legal 1 2 1)
    -- third tree, offered places 1 2 2: legal, losses 2
    ∷ case (65535 ∷ 0 ∷ 0 ∷ []) (0 ∷ 11 ∷ 11 ∷ []) (offer (some (1 ∷ 2 ∷ 2 ∷ [])) none) (legal 1 2 0)
    -- second tree, its places, labels 1 1 0 0 0: 11 at node 0
    ∷ case (65535 ∷ 0 ∷ 1 ∷ 1 ∷ 0 ∷ []) (0 ∷ 0 ∷ 11 ∷ 13 ∷ 12 ∷ []) (offer none (some (1 ∷ 1 ∷ 0 ∷ 0 ∷ 0 ∷ []))) (judged (refused 11 2 0))
    -- first tree, places 1 1 2 3 4, labels 1 1 0 0 0: 10 at node 4
    ∷ case (65535 ∷ 0 ∷ 1 ∷ 1 ∷ 0 ∷ []) (0 ∷ 0 ∷ 11 ∷ 12 ∷ 13 ∷ []) (offer (some (1 ∷ 1 ∷ 2 ∷ 3 ∷ 4 ∷ [])) (some (1 ∷ 1 ∷ 0 ∷ 0 ∷ 0 ∷ []))) (judged (refused 10 2 4))
    ∷ []

pub starred_right : map answer starred ≡ map expected starred
unfolding answer answer_to expected named counts legal starred range cons_if keep_if has all any first total one lowest up is_root climb line nodes kids kid is_leaf depth carrier home pick ruling sized parented topped reaching paired marked fresh known root_rules child_rules shape_rules species_rules family_rules gene_rules pair_rules below leaves holds place label least_places least_labels edge losses_at losses climbs_at climbs duplications speciations cost latest dated roomy placed right_kind fitting homed nested apart parted descent_rules least_rules offer_rules dating_rules least_counts offer_counts least_ruling offer_ruling dating_ruling
starred_right = refl
