-- The codes of the sides on which the children's places lie, added up, and what a sum of 3 means. Assumes nothing.
use Prim.Native.Nat.{ℕ, ◌+◌, ◌≤◌, ◌<◌}
use native.Mathlib.Omega.{arith}
use native.Mathlib.Decide.{ℕ_discrete, dec_lt}
use mathlib.Core.Path.{◌≡◌, refl, sym, ap, ◌∙◌}
use mathlib.Core.Logic.{◌⊎◌, inl, inr, ◌≢◌}
use mathlib.Core.List.{List, [], ◌∷◌}
use lib.ListN.{length, get_or, set, replicate, length-set, length-replicate, get_or-replicate}
use lib.Seq.{get_or-set_same, get_or-set_other}
use lib.Dec.{eqb}
use borrow.Author.Tests.{eq-eqb, ne_eqb, lt-ltb, le-ltb}
use Rattle.trees.specs.Lists.{range, keep_if, total, pick}
use Rattle.trees.specs.Trees.{up, Below, kids, nodes, kid}
use Rattle.trees.specs.First.{ParentsFirst}
use Rattle.trees.specs.Sound.{SoundTree}
use Rattle.trees.specs.Rulings.{accepted, each, verdict, fine, done, and}
use Rattle.trees.proofs.Rulings.{ruling_passes}
use Rattle.trees.proofs.Lists.{only, total_keep, total_more, total_none}
use Rattle.trees.proofs.Lines.{up_at}
use Rattle.trees.proofs.Kids.{kids_two, kid_first, kid_second}
use Rattle.histories.specs.Legal.{Apart}
use Rattle.nesting.specs.Runs.{Unshared, Laid}
use Rattle.sides.specs.Tests.{nested_by, parted_by}
use Rattle.sides.specs.Promises.{Nestable}
use Rattle.sides.proofs.Tests.{nested_below, parted_apart}
use Rattle.nesting.specs.Codes.{ahead_of, side_code_lem, far_of, child_code, Codable, Coding, Coded, SplitAt, Spread, Nests}
use Rattle.nesting.proofs.Subtrees.{inside_below, turn_apart}

-- ---- one code

pub code_here : (d t : ℕ) → d ≡ 0 → 0 ≡ side_code_lem d t
unfolding side_code_lem pick
code_here d t e = rw (eq-eqb d 0 e)

pub code_before : (d t : ℕ) → d ≢ 0 → d < t → 1 ≡ side_code_lem d t
unfolding side_code_lem pick
code_before d t n h = rw (ne_eqb d 0 n, lt-ltb d t h)

pub code_after : (d t : ℕ) → d ≢ 0 → t ≤ d → 2 ≡ side_code_lem d t
unfolding side_code_lem pick
code_after d t n h = rw (ne_eqb d 0 n, le-ltb d t h)

-- what a code says
code_cases : (d t : ℕ) → (side_code_lem d t ≡ 0) ⊎ (((side_code_lem d t ≡ 1) × (0 < d) × (d < t)) ⊎ ((side_code_lem d t ≡ 2) × (0 < d) × (t ≤ d)))
code_cases d t =
    elim (ℕ_discrete d 0) [
      | yes e ↦ inl (sym (code_here d t e))
      | no n ↦ elim (dec_lt d t) [
        | yes h ↦ inr (inl (sym (code_before d t n h), omega arith, h))
        | no h ↦ inr (inr (sym (code_after d t n (omega arith)), omega arith, omega arith))
      ]
    ]

-- two codes that add up to 3 are 1 and 2
code_three : (d e t : ℕ) → side_code_lem d t + side_code_lem e t ≡ 3
    → ((0 < d) × (d < t) × (t ≤ e)) ⊎ ((0 < e) × (e < t) × (t ≤ d))
code_three d e t q =
    elim (code_cases d t) [
      | inl x ↦ elim (code_cases e t) [ inl y ↦ absurd (omega arith) | inr y ↦ elim y [ inl z ↦ absurd (omega (arith, z.0)) | inr z ↦ absurd (omega (arith, z.0)) ] ]
      | inr x ↦ elim x [
        | inl x ↦ elim (code_cases e t) [
          | inl y ↦ absurd (omega (arith, x.0))
          | inr y ↦ elim y [ inl z ↦ absurd (omega (arith, x.0, z.0)) | inr z ↦ inl (x.1, x.2, z.2) ]
        ]
        | inr x ↦ elim (code_cases e t) [
          | inl y ↦ absurd (omega (arith, x.0))
          | inr y ↦ elim y [ inl z ↦ inr (z.1, z.2, x.2) | inr z ↦ absurd (omega (arith, x.0, z.0)) ]
        ]
      ]
    ]

-- a short way ahead is ahead
ahead_is : (a b r : ℕ) → a ≤ 2047 → b ≤ 2047 → r ≤ 2047 → ahead_of a b < r → ahead_of a b + b ≡ a
unfolding ahead_of
ahead_is a b r x y z h = omega arith

-- ---- the codes added up

module _ (gp pl start turn : List ℕ) where
  abbrev added : ℕ → ℕ → ℕ
  added g c = total (child_code gp pl start turn) (keep_if (λ j. eqb (up gp j) g) (range 0 c))

  added_none : (g : ℕ) → added g 0 ≡ 0
  unfolding total keep_if range
  added_none g = refl

  added_more : (g c : ℕ) → added g (c + 1) ≡ added g c + only (eqb (up gp c) g) (child_code gp pl start turn c)
  added_more g c =
      total_keep (child_code gp pl start turn) (λ j. eqb (up gp j) g) (range 0 (c + 1))
      ∙ total_more (λ j. only (eqb (up gp j) g) (child_code gp pl start turn j)) c
      ∙ ap (λ v. v + only (eqb (up gp c) g) (child_code gp pl start turn c)) (sym (total_keep (child_code gp pl start turn) (λ j. eqb (up gp j) g) (range 0 c)))

  added_child : (c : ℕ) → added (up gp c) (c + 1) ≡ added (up gp c) c + child_code gp pl start turn c
  added_child c = added_more (up gp c) c ∙ rw (eq-eqb (up gp c) (up gp c) refl)

  added_other : (g c : ℕ) → up gp c ≢ g → added g (c + 1) ≡ added g c
  added_other g c n = added_more g c ∙ rw (ne_eqb (up gp c) g n) (omega arith)

module _ {gp pl start run turn sides : List ℕ} (C : Codable gp pl start run turn sides) where
  pub coding_start : Coding gp pl start run turn 0 sides
  coding_start =
      record {
        sides_room = C.sides_room;
        small = λ g h. omega (arith, C.zeros g h);
        within = λ k a b. absurd (omega arith);
        at = λ g h. C.zeros g h ∙ sym (added_none gp pl start turn g);
      }

-- the root has no parent
pub coding_skip : {gp pl start run turn : List ℕ} (c : ℕ) {sides : List ℕ} → Coding gp pl start run turn c sides → c < length gp → length gp ≤ get_or gp c 0 → Coding gp pl start run turn (c + 1) sides
coding_skip {gp} {pl} {start} {run} {turn} c D h b =
    record {
      sides_room = D.sides_room;
      small = λ g x. omega (arith, D.small g x);
      within = λ k a y. elim (ℕ_discrete k c) [ yes z ↦ absurd (omega (arith, ap (λ m. get_or gp m 0) z)) | no n ↦ D.within k (omega arith) y ];
      at = λ g x. D.at g x ∙ sym (added_other gp pl start turn g c (omega (arith, up_at gp c h)));
    }

module _ {gp pl start run turn : List ℕ} (c : ℕ) {sides : List ℕ} (D : Coding gp pl start run turn c sides) (h : c < length gp) (b : get_or gp c 0 < length gp) where
  pub coding_turn : (d v : ℕ) → d ≡ far_of gp pl start c → d < get_or run (get_or pl (get_or gp c 0) 0) 0 → v ≡ side_code_lem d (get_or turn (get_or pl (get_or gp c 0) 0) 0) → v ≤ 2
      → Coding gp pl start run turn (c + 1) (set sides (get_or gp c 0) (get_or sides (get_or gp c 0) 0 + v))
  coding_turn d v e l f s =
      let u : ℕ = get_or gp c 0 in
      let w : ℕ = get_or sides u 0 + v in
      let p : up gp c ≡ u = up_at gp c h in
      let same : get_or (set sides u w) u 0 ≡ w = get_or-set_same sides u w 0 (omega (arith, D.sides_room)) in
      record {
        sides_room = omega (arith, length-set sides u w, D.sides_room);
        small = λ g x. elim (ℕ_discrete g u) [
          | yes z ↦ rw z (omega (arith, same, D.small u b))
          | no n ↦ omega (arith, get_or-set_other sides u g w 0 n, D.small g x)
        ];
        within = λ k a y. elim (ℕ_discrete k c) [
          | yes z ↦ rw (z, ← e) l
          | no n ↦ D.within k (omega arith) y
        ];
        at = λ g x. elim (ℕ_discrete g u) [
          | yes z ↦ rw z (same ∙ omega (arith, D.at u b, f, ap (λ m. side_code_lem m (get_or turn (get_or pl u 0) 0)) e, rw p at (added_child gp pl start turn c)))
          | no n ↦ get_or-set_other sides u g w 0 n ∙ D.at g x ∙ sym (added_other gp pl start turn g c (λ q. n (sym q ∙ p)))
        ];
      }

-- ---- what the quick test shows

-- the children of a node have one parent's place
child_far : (gp pl start turn : List ℕ) (g c : ℕ) → c < length gp → up gp c ≡ g
    → child_code gp pl start turn c ≡ side_code_lem (ahead_of (get_or start (get_or pl c 0) 0) (get_or start (get_or pl g 0) 0)) (get_or turn (get_or pl g 0) 0)
child_far gp pl start turn g c l e = rw (← up_at gp c l, e)

apart_swap : (sp : List ℕ) (a x y : ℕ) → Apart sp a y x → Apart sp a x y
apart_swap sp a x y p = elim p [ inl b ↦ inr (b.1, b.0) | inr b ↦ inl (b.1, b.0) ]

module _ {sp st gp gt pl start run turn sides : List ℕ} (S : SoundTree sp st) (G : SoundTree gp gt) (P : (g : ℕ) → g < length gp → get_or pl g 0 < length sp) (L : Laid sp start run turn) (C : Coded gp pl start run turn sides) where
  -- a place inside its parent's place's run is at or below it
  far_below : (c g : ℕ) → c < length gp → up gp c ≡ g → g < length gp
      → (ahead_of (get_or start (get_or pl c 0) 0) (get_or start (get_or pl g 0) 0) + get_or start (get_or pl g 0) 0 ≡ get_or start (get_or pl c 0) 0)
      × Below sp (get_or pl g 0) (get_or pl c 0)
  far_below c g l e h =
      let a = get_or pl g 0 in
      let x = get_or pl c 0 in
      let w : ahead_of (get_or start x 0) (get_or start a 0) < get_or run a 0 = rw (← up_at gp c l, e) at (C.within c l (omega (arith, e, up_at gp c l))) in
      let f : ahead_of (get_or start x 0) (get_or start a 0) + get_or start a 0 ≡ get_or start x 0 =
      ahead_is (get_or start x 0) (get_or start a 0) (get_or run a 0) (omega (arith, L.small x (P c l))) (omega (arith, L.small a (P g h))) (omega (arith, L.small a (P g h))) w in
      (f, inside_below S L a x (P g h) (P c l) (omega arith) (omega arith))

  split_apart : (g : ℕ) → g < length gp → get_or sides g 0 ≡ 3 → Apart sp (get_or pl g 0) (get_or pl (kid gp g 0) 0) (get_or pl (kid gp g 1) 0)
  unfolding kids nodes total
  split_apart g h e =
      let f = child_code gp pl start turn in
      let at : total f (kids gp g) ≡ 3 = sym (C.at g h) ∙ e in
      elim (G.two g h) [
        | inl z ↦ absurd (omega (arith, total_none f (kids gp g) z))
        | inr i ↦
            let j = kid gp g 0 in
            let k = kid gp g 1 in
            let J = kid_first gp g i in
            let K = kid_second gp g i in
            let a = get_or pl g 0 in
            let x = get_or pl j 0 in
            let y = get_or pl k 0 in
            let X = far_below j g J.0 J.1 h in
            let Y = far_below k g K.0 K.1 h in
            let sum : f j + (f k + 0) ≡ 3 = rw (kids_two gp g i) at at in
            elim (code_three (ahead_of (get_or start x 0) (get_or start a 0)) (ahead_of (get_or start y 0) (get_or start a 0)) (get_or turn a 0)
            (omega (arith, child_far gp pl start turn g j J.0 J.1, child_far gp pl start turn g k K.0 K.1))) [
              | inl c ↦ turn_apart S L a x y X.1 Y.1 (omega (arith, X.0, c.0)) (omega (arith, X.0, c.1)) (omega (arith, Y.0, c.2))
              | inr c ↦ apart_swap sp a x y (turn_apart S L a y x Y.1 X.1 (omega (arith, Y.0, c.0)) (omega (arith, Y.0, c.1)) (omega (arith, X.0, c.2)))
            ]
      ]

  -- every place lies in its parent's place's run, and the codes of each speciation's children add up to 3: rules 10 and 11 hold
  quick_nests : (lb : List ℕ) → ((g : ℕ) → g < length gp → SplitAt lb sides g) → Nests sp gp pl lb
  quick_nests lb s =
      record {
        descent = λ c l u. (far_below c (up gp c) l refl u).1;
        sides = λ g h e. split_apart g h (s g h e);
      }

-- ---- the tables at first

module _ {sp gp pl lb : List ℕ} (Q : Nestable sp gp pl lb) (n : ℕ) where
  pub unshared_start : ParentsFirst sp → length sp ≤ n → Unshared sp (replicate n 0) (replicate n 1) (replicate n 0)
  unshared_start F a =
      record {
        tree = Q.species;
        first = F;
        off_room = omega (arith, length-replicate {A = ℕ} n 0);
        run_room = omega (arith, length-replicate {A = ℕ} n 1);
        turn_room = omega (arith, length-replicate {A = ℕ} n 0);
        top = get_or-replicate {A = ℕ} n 0 0 0 (omega (arith, Q.species.1.some));
        ones = λ j l. get_or-replicate {A = ℕ} n j 1 0 (omega arith);
      }

  -- once the positions stand, the gene nodes can be looked at
  pub codable_start : {start run turn : List ℕ} → length gp ≤ n → Laid sp start run turn
      → Codable gp pl start run turn (replicate n 0) × (length gp ≤ length lb)
  codable_start b L = (
    record {
      genes = Q.genes;
      room = Q.places_room;
      started = λ g l. omega (arith, Q.placed g l, L.start_room);
      running = λ g l. omega (arith, Q.placed g l, L.run_room);
      turning = λ g l. omega (arith, Q.placed g l, L.turn_room);
      sides_room = omega (arith, length-replicate {A = ℕ} n 0);
      zeros = λ g l. get_or-replicate {A = ℕ} n g 0 0 (omega arith);
    },
    Q.labels_room,
  )

pub spread_nests : {sp gp pl lb start run turn : List ℕ} → Nestable sp gp pl lb → Laid sp start run turn → Spread gp pl lb start run turn → Nests sp gp pl lb
spread_nests {lb = lb} Q L X = quick_nests Q.species.1 Q.genes.1 Q.placed L X.coded lb X.split

-- and then no node is refused
pub nests_sound : {sp gp pl lb : List ℕ} → Nestable sp gp pl lb → Nests sp gp pl lb
    → accepted fine ≡ verdict (each 10 2 (length gp) (nested_by sp gp pl) ∷ each 11 2 (length gp) (parted_by sp gp pl lb) ∷ [])
nests_sound {sp} {gp} {pl} {lb} Q N =
    sym (ruling_passes (each 10 2 (length gp) (nested_by sp gp pl) ∷ each 11 2 (length gp) (parted_by sp gp pl lb) ∷ []) fine
    (and (λ c l. (nested_below Q.species.1 gp pl Q.placed c l).1 (N.descent c l))
    (and (λ g l. (parted_apart Q.species.1 gp pl Q.placed lb g l).1 (N.sides g l)) done)))
