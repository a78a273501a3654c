-- What each step of the judge means for its ruling. Assumes nothing.
use Rattle.std.specs.Prelude.{Ok, Err, is_err}
use Prim.Native.Nat.{ℕ, ◌≤◌, ◌<◌}
use native.Mathlib.Omega.{arith}
use native.Mathlib.Decide.{ℕ_discrete}
use mathlib.Core.Path.{◌≡◌, refl, sym, ap, ◌∙◌}
use mathlib.Core.Logic.{inl, inr}
use mathlib.Core.Bool.{false, true}
use mathlib.Core.List.{List, [], ◌∷◌}
use lib.ListN.{length, get_or}
use lib.Dec.{eqb}
use borrow.Author.Tests.{le-leb, eq-eqb}
use Rattle.trees.specs.Rulings.{accepted, refused_by, refused, Rule, whole, each, ruling, verdict, fine, number_of, tree_of, Passes, Every}
use Rattle.trees.specs.Tables.{Pair, taxon}
use Rattle.trees.specs.Trees.{Inner}
use Rattle.trees.specs.Rules.{pair_rules}
use Rattle.trees.specs.Answers.{judged_of}
use Rattle.trees.specs.declared.Refusal.{Refusal}
use Rattle.trees.specs.Answers.{Judged}
use Rattle.trees.proofs.Bools.{true_T, or_left, or_right}
use Rattle.trees.proofs.Lists.{lowest_same}
use Rattle.trees.proofs.Rulings.{every_head, ruling_pass, ruling_fail, ruling_all, ruling_stays, ruling_accepted, ruling_passes, one_passed, one_same}
use Rattle.trees.proofs.Soundness.{pair_accepted}
use Rattle.homes.specs.Homes.{homed_by, Homed}
use Rattle.histories.specs.Histories.{History, told, every_node}
use Rattle.histories.specs.Rules.{roomy, fitting, homed, nested, parted, descent_rules, offer_rules, OfferCounts, offer_counts, offer_ruling}
use Rattle.histories.proofs.Judged.{descent_legal, placed_is, right_kind_leaf, fitting_is}
use Rattle.counts.specs.Tallies.{Totals, history_tally, Story}
use Rattle.fitting.specs.Tests.{fitting_by}
use Rattle.sides.specs.Tests.{nested_by, parted_by}
use Rattle.fitting.specs.Promises.{Placed, Fitting, JudgeFittingMeets, JudgeHomesMeets}
use Rattle.sides.specs.Promises.{Nestable, JudgeSidesMeets}
use Rattle.offers.specs.Answers.{Offerable}
use Rattle.offers.proofs.Tests.{fitting_same, homed_same, nested_same, parted_same}

module _ {w : Pair} {pl lb : List ℕ} (O : Offerable w pl lb) where
  abbrev h : History
  h = told pl lb

  abbrev q : ℕ
  q = length w.gp

  abbrev rule8 : Rule
  rule8 = each 8 2 q (fitting w every_node h)

  abbrev rule9 : Rule
  rule9 = each 9 2 q (homed w h)

  abbrev rule10 : Rule
  rule10 = each 10 2 q (nested w h)

  abbrev rule11 : Rule
  rule11 = each 11 2 q (parted w h)

  even : length w.gt ≡ length w.gp
  even = O.sound.genes.even

  pub fitting_here : (length w.sp ≤ 2047) × Fitting w.gt pl lb
  fitting_here = (
    O.sound.species.tree.few,
    record {
      few = omega (arith, even, O.sound.genes.few);
      places_room = omega (arith, even, O.places_room);
      labels_room = omega (arith, even, O.labels_room);
    },
  )

  -- the rule over the tables, judged by itself, is rule 8
  as_8 : verdict (each 8 2 (length w.gt) (fitting_by (length w.sp) w.gt pl lb) ∷ []) ≡ verdict (rule8 ∷ [])
  as_8 =
      ap (λ n. verdict (each 8 2 n (fitting_by (length w.sp) w.gt pl lb) ∷ [])) even
      ∙ one_same 8 2 q (fitting_by (length w.sp) w.gt pl lb) (fitting w every_node h) (fitting_same O.sound pl lb)

  -- what rule 8 answers
  module _ (r : Judged) (e : JudgeFittingMeets (length w.sp) w.gt pl lb r) where
    pub stopped_8 : (f : Refusal) → r ≡ Err f → refused_by f ≡ verdict (descent_rules w every_node h)
    unfolding descent_rules
    stopped_8 f z =
        sym (ruling_stays (rule8 ∷ []) (rule9 ∷ rule10 ∷ rule11 ∷ []) fine fine f.number f.tree f.place (sym as_8 ∙ sym e ∙ ap judged_of z))

    -- it has passed
    module _ (z : r ≡ (Ok tt)) where
      passed_8 : Passes rule8
      passed_8 = every_head (ruling_accepted (rule8 ∷ []) fine fine (sym as_8 ∙ sym e ∙ ap judged_of z)).0

      places_in : (g : ℕ) → g < q → get_or pl g 0 < length w.sp
      places_in g l = ((placed_is w every_node h g).0 ((fitting_is w every_node h g).0 (passed_8 g l)).0).0

      -- a leaf is labelled 0, so a speciation is no leaf
      inner_kinds : (g : ℕ) → g < q → get_or lb g 0 ≡ 1 → Inner w.gp g
      inner_kinds g l k =
          elim (O.sound.genes.two g l) [
            | inl y ↦ absurd (omega (arith, (right_kind_leaf w h g y).0 ((fitting_is w every_node h g).0 (passed_8 g l)).1))
            | inr i ↦ i
          ]

      pub placed_here : Placed w.st w.gt pl
      placed_here =
          record {
            room = omega (arith, even, O.places_room);
            inside = λ g l. omega (arith, places_in g (omega (arith, even)), O.sound.species.tree.even);
          }

      pub nestable_here : Nestable w.sp w.gp pl lb
      nestable_here =
          record {
            species = (w.st, O.sound.species.tree);
            genes = (w.gt, O.sound.genes);
            places_room = O.places_room;
            labels_room = O.labels_room;
            placed = places_in;
            kinds = inner_kinds;
          }

      past_8 : verdict (descent_rules w every_node h) ≡ verdict (rule9 ∷ rule10 ∷ rule11 ∷ [])
      unfolding descent_rules
      past_8 = ruling_pass rule8 (rule9 ∷ rule10 ∷ rule11 ∷ []) fine passed_8

      as_9 : verdict (each 9 2 (length w.gt) (homed_by w.st w.gt pl) ∷ []) ≡ verdict (rule9 ∷ [])
      as_9 =
          ap (λ n. verdict (each 9 2 n (homed_by w.st w.gt pl) ∷ [])) even
          ∙ one_same 9 2 q (homed_by w.st w.gt pl) (homed w h) (homed_same O.sound pl lb places_in)

      -- what rule 9 answers
      module _ (s : Judged) (d : JudgeHomesMeets w.st w.gt pl s) where
        pub stopped_9 : (f : Refusal) → s ≡ Err f → refused_by f ≡ verdict (descent_rules w every_node h)
        stopped_9 f y =
            sym (past_8 ∙ ruling_stays (rule9 ∷ []) (rule10 ∷ rule11 ∷ []) fine fine f.number f.tree f.place (sym as_9 ∙ sym d ∙ ap judged_of y))

        -- it has passed: rules 10 and 11 are left
        pub descent_rest : s ≡ (Ok tt) → (t : Judged) → JudgeSidesMeets w.sp w.gp pl lb t → judged_of t ≡ verdict (descent_rules w every_node h)
        unfolding ruling
        descent_rest y t c =
            c
            ∙ rw (lowest_same (nested_by w.sp w.gp pl) (nested w h) q (nested_same O.sound pl lb places_in), lowest_same (parted_by w.sp w.gp pl lb) (parted w h) q (parted_same O.sound pl lb places_in))
            (sym (past_8 ∙ ruling_pass rule9 (rule10 ∷ rule11 ∷ []) fine (every_head (ruling_accepted (rule9 ∷ []) fine fine (sym as_9 ∙ sym d ∙ ap judged_of y)).0)))

-- what stops the judge, by the test whether it does
pub stops_8 : {w : Pair} {pl lb : List ℕ} → Offerable w pl lb → (r : Judged) → JudgeFittingMeets (length w.sp) w.gt pl lb r → is_err r ≡ true → judged_of r ≡ verdict (descent_rules w every_node (told pl lb))
stops_8 O (Err f) e h = stopped_8 O (Err f) e f refl
stops_8 O (Ok x) e h = absurd (cc)

pub stops_9 : {w : Pair} {pl lb : List ℕ} → Offerable w pl lb → (r : Judged) → JudgeFittingMeets (length w.sp) w.gt pl lb r → r ≡ (Ok tt) → (s : Judged) → JudgeHomesMeets w.st w.gt pl s → is_err s ≡ true → judged_of s ≡ verdict (descent_rules w every_node (told pl lb))
stops_9 O r e z (Err f) d h = stopped_9 O r e z (Err f) d f refl
stops_9 O r e z (Ok x) d h = absurd (cc)

-- leaves that are known to be at species nodes which carry their taxa are at home
pub leaves_known : (st gt pl : List ℕ) → Homed st gt pl → accepted fine ≡ verdict (each 9 2 (length gt) (homed_by st gt pl) ∷ [])
unfolding homed_by
leaves_known st gt pl H =
    sym (one_passed 9 2 (length gt) (homed_by st gt pl)
    (λ g l. elim (ℕ_discrete (taxon gt g) 0) [
      | yes e ↦ or_left (eqb (taxon gt g) 0) (eqb (taxon st (get_or pl g 0)) (taxon gt g)) (true_T (eq-eqb (taxon gt g) 0 e))
      | no n ↦ or_right (eqb (taxon gt g) 0) (eqb (taxon st (get_or pl g 0)) (taxon gt g)) (true_T (eq-eqb (taxon st (get_or pl g 0)) (taxon gt g) (H.home g l n).1))
    ]))

-- ---- the rules judged, then the counts

module _ {w : Pair} {pl lb : List ℕ} (O : Offerable w pl lb) where
  abbrev rules : List Rule
  rules = descent_rules w every_node (told pl lb)

  pub descent_refused : (n t v : ℕ) → verdict rules ≡ refused n t v → ruling rules (offer_counts w (told pl lb)) ≡ refused n t v
  unfolding descent_rules
  descent_refused n t v e = ruling_stays rules [] fine (offer_counts w (told pl lb)) n t v e

  module _ (e : verdict rules ≡ accepted fine) where
    passed : Every Passes rules
    passed = (ruling_accepted rules fine fine e).0

    pub descent_accepted : ruling rules (offer_counts w (told pl lb)) ≡ accepted (offer_counts w (told pl lb))
    descent_accepted = ruling_passes rules (offer_counts w (told pl lb)) passed

    pub story_here : Story w pl lb
    story_here =
        record {
          sound = O.sound;
          places_room = O.places_room;
          labels_room = O.labels_room;
          legal = (descent_legal O.sound every_node (told pl lb)).0 passed;
        }

-- the counts from the tally of the tables
pub offer_counts_are : (w : Pair) (k : History) (t : Totals) → t ≡ history_tally w k
    → ◌≡◌ {A = OfferCounts} (record { duplications = t.duplications; losses = t.losses; speciations = t.speciations }) (offer_counts w k)
unfolding offer_counts history_tally
offer_counts_are w k t e = rw e

-- ---- the whole call

module _ (w : Pair) (pl lb : List ℕ) where
  pub offer_refused : (n t v : ℕ) → verdict (pair_rules w) ≡ refused n t v → offer_ruling w pl lb ≡ refused n t v
  unfolding offer_ruling offer_rules
  offer_refused n t v e = ruling_stays (pair_rules w) _ fine (offer_counts w (told pl lb)) n t v e

  module _ (a : verdict (pair_rules w) ≡ accepted fine) where
    past_pair : offer_ruling w pl lb ≡ ruling (whole 7 0 0 (roomy w pl lb) ∷ descent_rules w every_node (told pl lb)) (offer_counts w (told pl lb))
    unfolding offer_ruling offer_rules
    past_pair = ruling_all (pair_rules w) _ (offer_counts w (told pl lb)) (ruling_accepted (pair_rules w) fine fine a).0

    pub offer_short : roomy w pl lb ≡ false → offer_ruling w pl lb ≡ refused 7 0 0
    unfolding number_of tree_of
    offer_short e = past_pair ∙ ruling_fail (whole 7 0 0 (roomy w pl lb)) _ (offer_counts w (told pl lb)) 0 (refl, e)

    pub offer_descent : length w.gp ≤ length pl → length w.gp ≤ length lb
        → offer_ruling w pl lb ≡ ruling (descent_rules w every_node (told pl lb)) (offer_counts w (told pl lb))
    unfolding roomy
    offer_descent b d =
        past_pair ∙ ruling_pass (whole 7 0 0 (roomy w pl lb)) _ (offer_counts w (told pl lb)) (rw (le-leb (length w.gp) (length pl) b, le-leb (length w.gp) (length lb) d) tt)

    pub offerable : length w.gp ≤ length pl → length w.gp ≤ length lb → Offerable w pl lb
    offerable b d = record { sound = (pair_accepted w).0 a; places_room = b; labels_room = d }
