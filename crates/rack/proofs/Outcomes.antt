-- What each way through the rack's calls answers and leaves. Assumes nothing.
use Rattle.std.specs.Prelude.{Err, Ok}
use Prim.Native.Nat.{ℕ, ◌≤◌, ◌<◌}
use native.Mathlib.Omega.{arith}
use mathlib.Core.Path.{◌≡◌, refl, sym, ap, ◌∙◌}
use mathlib.Core.Bool.{Bool, true, false, ◌&&◌}
use mathlib.Core.List.{List, [], ◌∷◌, ◌++◌, append-nil}
use lib.ListN.{length, set}
use lib.Dec.{leb}
use borrow.Author.Tests.{le-leb, lt-leb}
use Rattle.trees.specs.Rulings.{accepted, refused, refused_by, whole, verdict, fine, number_of, tree_of}
use Rattle.trees.specs.Tables.{Pair}
use Rattle.trees.specs.Rules.{pair_rules}
use Rattle.trees.specs.Lent.{replaced}
use Rattle.trees.specs.declared.Refusal.{Refusal}
use Rattle.trees.proofs.Rulings.{ruling_stays, ruling_accepted, ruling_passes, ruling_all, ruling_fail}
use Rattle.bounds.proofs.Places.{placed_ruling, pair_placed}
use Rattle.histories.specs.Outcomes.{Outcome, least_outcome}
use Rattle.histories.specs.Histories.{least_places, least_labels}
use Rattle.histories.specs.Rules.{Counts, roomy, least_rules, least_counts, least_ruling}
use Rattle.histories.proofs.Outcomes.{least_left}
use Rattle.least.specs.Answers.{counts_of}
use Rattle.least.specs.Promises.{LeastHistoryMeets}
use Rattle.least.specs.declared.LeastCounts.{LeastCounts}
use Rattle.least.specs.Answers.{LeastAnswer}
use Rattle.rack.specs.Rack.{rack_rules, four_of, rack_counts, rack_ruling, RackOutcome, rack_outcome}

-- the four entries that are written
pub four_put : (a b c d : ℕ) (l : List ℕ) → 4 ≤ length l → set (set (set (set l 0 a) 1 b) 2 c) 3 d ≡ replaced (four_of a b c d) l
unfolding replaced
four_put a b c d [] h = absurd (omega arith)
four_put a b c d (x ∷ []) h = absurd (omega arith)
four_put a b c d (x ∷ y ∷ []) h = absurd (omega arith)
four_put a b c d (x ∷ y ∷ z ∷ []) h = absurd (omega arith)
four_put a b c d (x ∷ y ∷ z ∷ u ∷ l) h = refl

and_yes : (b : Bool) → (b && true) ≡ b
and_yes true = refl
and_yes false = refl

and_no : (b : Bool) → (b && false) ≡ false
and_no true = refl
and_no false = refl

-- what a refusal leaves
abbrev pub alone : ℕ → List ℕ → List ℕ → List ℕ → RackOutcome
alone n p l c = record { number = n; places = p; labels = l; counts = c }

-- a place of 16 bits
pub place_small : (w : Pair) (n t v : ℕ) → refused n t v ≡ verdict (pair_rules w) → v < 65536
place_small w n t v e = placed_ruling (pair_rules w) (pair_placed w) fine n t v (sym e)

module _ (w : Pair) (p l c : List ℕ) where
  stays : (n t v : ℕ) → rack_ruling w p l c ≡ refused n t v → alone n p l c ≡ rack_outcome w p l c
  unfolding rack_outcome
  stays n t v e = rw e

  -- ---- too few entries for the counts

  module _ (h : length c < 4) where
    short_rules : rack_rules w p l c ≡ pair_rules w ++ whole 7 0 0 false ∷ []
    unfolding rack_rules
    short_rules = rw (lt-leb 4 (length c) h, and_no (roomy w p l))

    pub short_refused : (n t v : ℕ) → verdict (pair_rules w) ≡ refused n t v → alone n p l c ≡ rack_outcome w p l c
    unfolding rack_ruling rack_rules
    short_refused n t v e = stays n t v (ruling_stays (pair_rules w) (whole 7 0 0 (roomy w p l && leb 4 (length c)) ∷ []) fine (rack_counts w) n t v e)

    pub short_sound : verdict (pair_rules w) ≡ accepted fine → alone 7 p l c ≡ rack_outcome w p l c
    unfolding rack_ruling number_of tree_of
    short_sound e =
        stays 7 0 0 (rw short_rules
        (ruling_all (pair_rules w) (whole 7 0 0 false ∷ []) (rack_counts w) (ruling_accepted (pair_rules w) fine fine e).0
        ∙ ruling_fail (whole 7 0 0 false) [] (rack_counts w) 0 (refl, refl)))

  -- ---- the least history

  module _ (h : 4 ≤ length c) where
    same_rules : rack_rules w p l c ≡ least_rules w p l
    unfolding rack_rules least_rules
    same_rules = rw (le-leb 4 (length c) h, and_yes (roomy w p l))

    pub rack_refused : (x : LeastAnswer) (r : Refusal) (p' l' : List ℕ) → LeastHistoryMeets w p l 0 0 x p' l' → x ≡ Err r → alone r.number p' l' c ≡ rack_outcome w p l c
    unfolding rack_ruling least_outcome least_ruling
    rack_refused x r p' l' N q =
        let M : LeastHistoryMeets w p l 0 0 (Err r) p' l' = rw q at N in
        let e : (least_outcome w p l 0 0).answer ≡ refused_by r = sym (ap (λ (o : Outcome). o.answer) M) in
        let k = least_left w p l 0 0 r.number r.tree r.place e in
        let a : p' ≡ p = ap (λ (o : Outcome). o.places) M ∙ k.0 in
        let b : l' ≡ l = ap (λ (o : Outcome). o.labels) M ∙ k.1 in
        rw (a, b) (stays r.number r.tree r.place (rw same_rules (rw (append-nil (least_rules w p l)) at (ruling_stays (least_rules w p l) [] (least_counts w 0 0) (rack_counts w) r.number r.tree r.place e))))

    pub rack_done : (x : LeastAnswer) (s : LeastCounts) (p' l' c' : List ℕ) → LeastHistoryMeets w p l 0 0 x p' l' → x ≡ Ok s → c' ≡ replaced (four_of s.duplications s.losses s.speciations s.climbs) c
        → alone 0 p' l' c' ≡ rack_outcome w p l c
    unfolding rack_outcome rack_ruling rack_counts least_outcome least_ruling least_counts
    rack_done x s p' l' c' N q f =
        let M : LeastHistoryMeets w p l 0 0 (Ok s) p' l' = rw q at N in
        let e : least_ruling w p l 0 0 ≡ accepted (counts_of s) = sym (ap (λ (o : Outcome). o.answer) M) in
        let k = ruling_accepted (least_rules w p l) (least_counts w 0 0) (counts_of s) e in
        let r : rack_ruling w p l c ≡ accepted (rack_counts w) = rw same_rules (ruling_passes (least_rules w p l) (rack_counts w) k.0) in
        let a : p' ≡ replaced (least_places w) p = ap (λ (o : Outcome). o.places) M ∙ rw e in
        let b : l' ≡ replaced (least_labels w) l = ap (λ (o : Outcome). o.labels) M ∙ rw e in
        let d : four_of s.duplications s.losses s.speciations s.climbs ≡ rack_counts w = ap (λ (x : Counts). four_of x.duplications x.losses x.speciations x.climbs) (sym k.1) in
        rw (r, a, b, f, d)
