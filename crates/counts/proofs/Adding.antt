-- The sums over the gene nodes are what 01 counts of a legal history, if the steps are those of the edges. Assumes nothing.
use Prim.Native.Nat.{ℕ, ◌+◌, ◌-◌, ◌≤◌, ◌<◌}
use native.Mathlib.Omega.{arith}
use mathlib.Core.Path.{◌≡◌, refl, sym, ap, ap₂, ◌∙◌}
use mathlib.Core.Bool.{Bool, true, false}
use mathlib.Core.List.{List}
use lib.ListN.{length, get_or, take}
use lib.Seq.{length-take-le}
use lib.Dec.{eqb, ltb}
use Rattle.std.specs.Int.{from_bool}
use Rattle.std.proofs.lemmas.List.{get_or-take}
use Rattle.trees.specs.Lists.{range, total, one}
use Rattle.trees.specs.Trees.{up, nodes}
use Rattle.trees.specs.Tables.{Pair}
use Rattle.trees.specs.declared.GeneNode.{GeneNode}
use Rattle.trees.proofs.Lists.{only, total_cong, total_more, total_part, range_has}
use Rattle.trees.proofs.Sound.{trees}
use Rattle.histories.specs.Histories.{History, told, every_node, depth_in, duplications, speciations, losses_in, climbs}
use Rattle.histories.proofs.Counts.{climbs_below, climbs_losses}
use Rattle.histories.proofs.Bounds.{climbs_few}
use Rattle.counts.specs.Tallies.{tallied_of, history_tally, Story}
use Rattle.counts.specs.Adding.{kinds_to, Addable, Added}
use Rattle.counts.specs.declared.Tally.{Tally}

-- ---- one turn of the sums

kinds_more : (labels : List ℕ) (k n : ℕ) → kinds_to labels k (n + 1) ≡ kinds_to labels k n + one (eqb (get_or labels n 0) k)
kinds_more labels k n = total_more (λ g. one (eqb (get_or labels g 0) k)) n

-- a test that holds counts 1, and one that fails 0
from_one : (b : Bool) {r : ℕ} → r ≡ from_bool b → r ≡ one b
unfolding one
from_one true e = e
from_one false e = e

pub from_few : (b : Bool) {r : ℕ} → r ≡ from_bool b → r ≤ 1
from_few true e = omega arith
from_few false e = omega arith

pub kinds_turn : (labels : List ℕ) (k c : ℕ) {n r : ℕ} → n ≡ kinds_to labels k c → r ≡ from_bool (eqb (get_or labels c 0) k) → n + r ≡ kinds_to labels k (c + 1)
kinds_turn labels k c e f = ap₂ ◌+◌ e (from_one _ f) ∙ sym (kinds_more labels k c)

-- the sum stays small
pub part_fits : (s : ℕ → ℕ) (c n : ℕ) → c < n → total s (range 0 c) + s c ≤ total s (range 0 n)
part_fits s c n l =
    let k = n - (c + 1) in
    let e : c + 1 + k ≡ n = omega arith in
    omega (arith, total_more s c, total_part s (c + 1) k, ap (λ m. total s (range 0 m)) e)

-- ---- the sums of a legal history

-- the labels of the gene nodes alone
kinds_taken : (labels : List ℕ) (k q : ℕ) → q ≤ length labels → kinds_to (take q labels) k (length (take q labels)) ≡ kinds_to labels k q
kinds_taken labels k q l =
    rw (length-take-le q labels l)
    (total_cong (λ g. one (eqb (get_or (take q labels) g 0) k)) (λ g. one (eqb (get_or labels g 0) k)) (range 0 q)
    (λ g t. let h : g < q = omega (arith, range_has 0 q g t) in rw (get_or-take q labels g 0 h)))

module _ {w : Pair} {places labels : List ℕ} (Y : Story w places labels) where
  abbrev h : History
  h = told places labels

  -- the steps are those of the edges: none at the root
  abbrev pub Edges : (ℕ → ℕ) → Type 0
  Edges s = (c : ℕ) → c < length w.gp → s c ≡ only (ltb (up w.gp c) (length w.gp)) (depth_in w (h.at c) - depth_in w (h.at (up w.gp c)))

  module _ (s : ℕ → ℕ) (E : Edges s) where
    pub steps_climbs : total s (range 0 (length w.gp)) ≡ climbs (depth_in w) w.gp h
    unfolding nodes
    steps_climbs =
        total_cong s (λ c. only (ltb (up w.gp c) (length w.gp)) (depth_in w (h.at c) - depth_in w (h.at (up w.gp c)))) (nodes w.gp)
        (λ c t. E c (omega (arith, range_has 0 (length w.gp) c t)))
        ∙ sym (climbs_below (trees Y.sound).g (depth_in w) h)

    pub steps_small : total s (range 0 (length w.gp)) ≤ 2093058
    steps_small = rw steps_climbs (climbs_few Y.sound every_node h (λ g l. Y.legal.at_node g l))

    size : length (take (length w.gp) labels) ≡ length w.gp
    size = length-take-le (length w.gp) labels Y.labels_room

    kinds : (k : ℕ) → kinds_to (take (length w.gp) labels) k (length (take (length w.gp) labels)) ≡ kinds_to labels k (length w.gp)
    kinds k = kinds_taken labels k (length w.gp) Y.labels_room

    kinds_speciations : kinds_to labels 1 (length w.gp) ≡ speciations w.gp h
    unfolding speciations nodes
    kinds_speciations = refl

    kinds_duplications : kinds_to labels 2 (length w.gp) ≡ duplications w.gp h
    unfolding duplications nodes
    kinds_duplications = refl

    pub story_addable : (pre : GeneNode → Type 0) (post : GeneNode → ℕ → Type 0) → ((g : GeneNode) → g.0 < length w.gp → pre g)
        → ((g : GeneNode) (r : ℕ) → g.0 < length w.gp → post g r → r ≡ s g.0) → Addable pre post (take (length w.gp) labels) s
    story_addable pre post asked answers =
        let few : length w.gp ≤ 2047 = Y.sound.genes.few in
        record {
          asked = λ g l. asked g (omega (arith, size));
          told = λ g r l p. answers g r (omega (arith, size)) p;
          few = omega (arith, size);
          fits = rw size (omega (arith, steps_small));
          enough = rw (kinds 1, size, steps_climbs, kinds_speciations) (omega (arith, climbs_losses Y.sound Y.legal));
        }

    -- the sums, with the losses they give, are what 01 counts
    pub story_added : (t : Tally) → Added (take (length w.gp) labels) s t → tallied_of t ≡ history_tally w h
    unfolding history_tally
    story_added t A =
        let climbed : t.climbs ≡ climbs (depth_in w) w.gp h = A.climbs ∙ ap (λ n. total s (range 0 n)) size ∙ steps_climbs in
        let split : t.speciations ≡ speciations w.gp h = A.speciations ∙ kinds 1 ∙ kinds_speciations in
        let doubled : t.duplications ≡ duplications w.gp h = A.duplications ∙ kinds 2 ∙ kinds_duplications in
        let lost : t.losses ≡ losses_in w h = omega (arith, A.losses, A.climbs, A.speciations, climbed, split, climbs_losses Y.sound Y.legal) in
        rw (doubled, lost, split, climbed)
