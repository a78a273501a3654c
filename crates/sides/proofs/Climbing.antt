-- Sides of species nodes: the climb that finds one, and what the sides of two children settle. Assumes nothing.
use Prim.Native.Nat.{ℕ, ◌+◌, ◌≤◌, ◌<◌}
use native.Mathlib.Omega.{arith}
use native.Mathlib.Decide.{ℕ_discrete}
use mathlib.Core.Path.{◌≡◌, refl, sym, ap, ◌∙◌}
use mathlib.Core.Logic.{◌⊎◌, inl, inr, ◌≢◌, ◌↔◌}
use mathlib.Core.Bool.{Bool, true, false}
use mathlib.Core.List.{List, [], ◌∷◌, ◌++◌}
use lib.ListN.{length, get_or, set, replicate, length-set, length-replicate, get_or-replicate}
use lib.Seq.{get_or-set_same, get_or-set_other}
use lib.Dec.{T, eqb, eqb→eq, eqb_refl}
use borrow.Author.Tests.{eq-eqb, ne_eqb}
use Rattle.trees.specs.Lists.{range, cons_if, keep_if, first, pick}
use Rattle.trees.specs.Trees.{none, up, line, Below, kid, Inner, nodes, kids}
use Rattle.trees.specs.Sound.{SoundTree}
use Rattle.trees.proofs.Lists.{first_yes, first_no, first_none, first_has, any_cases, keep_last}
use Rattle.trees.proofs.Lines.{up_at, line_in, line_out, off_line, on_line, top_node}
use Rattle.trees.proofs.Kids.{siblings, kids_two, not_over}
use Rattle.trees.proofs.Sound.{rooted}
use Rattle.sides.specs.Tests.{side_of}
use Rattle.sides.specs.Visits.{unseen, merged, sides_from, sides_of, child_side, Seen}

module _ {sp st : List ℕ} (S : SoundTree sp st) where
  -- one step of the climb
  pub side_here : (a s : ℕ) → s < length sp → get_or sp s 0 ≡ a → s ≡ side_of sp a s
  unfolding side_of
  side_here a s h e = sym (rw (line_in (rooted S).ground s h) (first_yes (λ x. eqb (up sp x) a) s (line sp (up sp s)) none (eq-eqb (up sp s) a (up_at sp s h ∙ e))))

  pub side_up : (a s : ℕ) → s < length sp → get_or sp s 0 ≢ a → side_of sp a s ≡ side_of sp a (get_or sp s 0)
  unfolding side_of
  side_up a s h n =
      rw (line_in (rooted S).ground s h)
      (first_no (λ x. eqb (up sp x) a) s (line sp (up sp s)) none (ne_eqb (up sp s) a (λ e. n (sym (up_at sp s h) ∙ e)))
      ∙ ap (λ u. first (λ x. eqb (up sp x) a) (line sp u) none) (up_at sp s h))

  -- no node at or above a has a for its parent
  pub side_self : (a : ℕ) → none ≡ side_of sp a a
  unfolding side_of
  side_self a =
      sym (first_none (λ x. eqb (up sp x) a) (line sp a) none (λ x t. ne_eqb (up sp x) a (λ e. not_over (rooted S).ground {c = x} (rw e (off_line sp t)))))

  -- above the root there is nothing
  pub side_root : (a s : ℕ) → s < length sp → get_or sp s 0 ≢ a → length sp ≤ get_or sp s 0 → none ≡ side_of sp a s
  unfolding side_of first
  side_root a s h n l = sym (side_up a s h n ∙ rw (line_out sp (get_or sp s 0) l))

  -- ---- what a side is

  -- a node properly below a lies below just one child of a: its side
  pub side_is : (a x s : ℕ) → up sp s ≡ a → s < length sp → Below sp s x → side_of sp a x ≡ s
  unfolding side_of
  side_is a x s e h B =
      let p : ℕ → Bool = λ y. eqb (up sp y) a in
      let f = first_has p s (line sp x) none (on_line (rooted S).ground B) (rw e (eqb_refl a)) in
      let u : up sp (first p (line sp x) none) ≡ a = eqb→eq (up sp (first p (line sp x) none)) a f.0 in
      siblings (rooted S).ground (e ∙ sym u) B (off_line sp f.1)

  pub side_cases : (a x : ℕ) → ((side_of sp a x < length sp) × (up sp (side_of sp a x) ≡ a) × Below sp (side_of sp a x) x)
      ⊎ ((side_of sp a x ≡ none) × ((s : ℕ) → up sp s ≡ a → Below sp s x → ⊥))
  unfolding side_of
  side_cases a x =
      let p : ℕ → Bool = λ y. eqb (up sp y) a in
      elim (any_cases p (line sp x)) [
        | inl k ↦
            let f = first_has p k.0 (line sp x) none k.1 k.2 in
            let B = off_line sp f.1 in
            inl (top_node B, eqb→eq (up sp (first p (line sp x) none)) a f.0, B)
        | inr k ↦ inr (first_none p (line sp x) none k, λ s e B. absurd (rw (k s (on_line (rooted S).ground B)) at (side_test a s e)))
      ]
    where
      side_test : (a s : ℕ) → up sp s ≡ a → T (eqb (up sp s) a)
      side_test a s e = rw e (eqb_refl a)

-- ---- the table of what is known

sides_join : (f : ℕ → ℕ) (v : ℕ) (l m : List ℕ) → sides_from f v (l ++ m) ≡ sides_from f (sides_from f v l) m
unfolding sides_from
sides_join f v [] m = refl
sides_join f v (c ∷ l) m = sides_join f (merged v (f c)) l m

sides_cons : (f : ℕ → ℕ) (v c : ℕ) (b : Bool) → sides_from f v (cons_if b c []) ≡ pick b (merged v (f c)) v
unfolding sides_from cons_if pick
sides_cons f v c true = refl
sides_cons f v c false = refl

module _ (sp gp p : List ℕ) where
  abbrev sofar : ℕ → ℕ → ℕ
  sofar g c = sides_of (child_side sp gp p) (keep_if (λ j. eqb (up gp j) g) (range 0 c))

  sofar_more : (g c : ℕ) → sofar g (c + 1) ≡ pick (eqb (up gp c) g) (merged (sofar g c) (child_side sp gp p c)) (sofar g c)
  sofar_more g c =
      rw (keep_last (λ j. eqb (up gp j) g) c)
      (sides_join (child_side sp gp p) unseen (keep_if (λ j. eqb (up gp j) g) (range 0 c)) (cons_if (eqb (up gp c) g) c [])
      ∙ sides_cons (child_side sp gp p) (sofar g c) c (eqb (up gp c) g))

  pub seen_start : length gp ≤ 2047 → Seen sp gp p 0 (replicate 2047 65534)
  unfolding range keep_if sides_from
  seen_start few =
      record {
        size = length-replicate {A = ℕ} 2047 65534;
        at = λ g h. get_or-replicate {A = ℕ} 2047 g 65534 0 (omega arith);
      }

  -- a child with a parent is looked at
  pub seen_turn : (c : ℕ) (sides : List ℕ) → length gp ≤ 2047 → c < length gp → get_or gp c 0 < length gp → Seen sp gp p c sides
      → Seen sp gp p (c + 1) (set sides (get_or gp c 0) (merged (get_or sides (get_or gp c 0) 0) (side_of sp (get_or p (get_or gp c 0) 0) (get_or p c 0))))
  unfolding pick
  seen_turn c sides few h b D =
      let u = get_or gp c 0 in
      let e = up_at gp c h in
      let v = merged (get_or sides u 0) (side_of sp (get_or p u 0) (get_or p c 0)) in
      let size : length sides ≡ 2047 = D.size in
      record {
        size = length-set sides u v ∙ D.size;
        at = λ g l. elim (ℕ_discrete g u) [
          | yes z ↦ rw (z, get_or-set_same sides u v 0 (omega arith), sofar_more u c, e, eq-eqb u u refl, D.at u b)
          | no z ↦ get_or-set_other sides u g v 0 z ∙ D.at g l ∙ sym (sofar_more g c ∙ rw (e, ne_eqb u g (λ q. z (sym q))))
        ];
      }

  -- the root has no parent
  pub seen_root : (c : ℕ) (sides : List ℕ) → c < length gp → length gp ≤ get_or gp c 0 → Seen sp gp p c sides → Seen sp gp p (c + 1) sides
  unfolding pick
  seen_root c sides h b D =
      record { size = D.size; at = λ g l. D.at g l ∙ sym (sofar_more g c ∙ rw (up_at gp c h, ne_eqb (get_or gp c 0) g (omega arith))) }

  -- at the end an inner node has its two children's sides together
  pub seen_end : (sides : List ℕ) (g : ℕ) → Seen sp gp p (length gp) sides → g < length gp → Inner gp g
      → get_or sides g 0 ≡ merged (merged unseen (child_side sp gp p (kid gp g 0))) (child_side sp gp p (kid gp g 1))
  unfolding sides_from kids nodes
  seen_end sides g D h i = D.at g h ∙ ap (λ l. sides_of (child_side sp gp p) l) (kept_kids g ∙ kids_two gp g i)
    where
      kept_kids : (g : ℕ) → keep_if (λ j. eqb (up gp j) g) (range 0 (length gp)) ≡ kids gp g
      kept_kids g = refl

-- ---- one side more

module _ (v : ℕ) where
  pub merged_none : none ≡ merged v none
  unfolding merged pick
  merged_none =
      elim (ℕ_discrete v unseen) [
        | yes e ↦ rw (eq-eqb v unseen e)
        | no n ↦ elim (ℕ_discrete v none) [ yes z ↦ rw (ne_eqb v unseen n, eq-eqb v none z) | no z ↦ rw (ne_eqb v unseen n, ne_eqb v none z) ]
      ]

  module _ (s : ℕ) where
    pub merged_first : v ≡ unseen → s ≡ merged v s
    unfolding merged pick
    merged_first e = rw (eq-eqb v unseen e)

    pub merged_same : v ≢ unseen → v ≡ s → none ≡ merged v s
    unfolding merged pick
    merged_same n e = rw (ne_eqb v unseen n, eq-eqb v s e)

    pub merged_other : v ≢ unseen → v ≢ s → s ≢ none → v ≡ merged v s
    unfolding merged pick
    merged_other n m k = rw (ne_eqb v unseen n, ne_eqb v s m, ne_eqb s none k)

-- two sides together: none, exactly if one is none or both are one
pub merged_two : (s t : ℕ) → s ≢ unseen → (merged (merged unseen s) t ≡ none) ↔ ((s ≡ none) ⊎ ((t ≡ none) ⊎ (s ≡ t)))
unfolding merged pick
merged_two s t n =
    rw (ne_eqb s unseen n) (
      (λ e. elim (ℕ_discrete s t) [
        | yes z ↦ inr (inr z)
        | no z ↦ elim (ℕ_discrete t none) [ yes y ↦ inr (inl y) | no y ↦ inl (rw (ne_eqb s t z, ne_eqb t none y) at e) ]
      ]),
      (λ k. elim k [
        | inl e ↦ elim (ℕ_discrete s t) [ yes z ↦ rw (eq-eqb s t z) | no z ↦ elim (ℕ_discrete t none) [ yes y ↦ rw (ne_eqb s t z, eq-eqb t none y) | no y ↦ rw (ne_eqb s t z, ne_eqb t none y) e ] ]
        | inr r ↦ elim r [
          | inl e ↦ elim (ℕ_discrete s t) [ yes z ↦ rw (eq-eqb s t z) | no z ↦ rw (ne_eqb s t z, eq-eqb t none e) ]
          | inr e ↦ rw (eq-eqb s t e)
        ]
      ]),
    )
