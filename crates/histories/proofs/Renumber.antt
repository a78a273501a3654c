-- Renumber both trees in any way, and places, labels and counts are the renumbered ones: `renumbered`, at the end, for the least history,
-- and `renumbered_legal` for any. Assumes nothing.
use Prim.Native.Nat.{ℕ, ◌-◌, ◌≤◌, ◌<◌}
use native.Mathlib.Omega.{arith}
use mathlib.Core.Path.{◌≡◌, refl, sym, ap, ◌∙◌}
use mathlib.Core.Logic.{◌⊎◌, inl, inr, ◌↔◌}
use mathlib.Core.Bool.{Bool}
use mathlib.Core.List.{List}
use lib.ListN.{length}
use lib.Dec.{eqb}
use Rattle.trees.specs.Lists.{any, total, one}
use Rattle.trees.specs.Trees.{none, up, Below, nodes, kids, kid, Inner, depth}
use Rattle.trees.specs.Tables.{Pair, home}
use Rattle.trees.specs.Sound.{SoundTree, Sound}
use Rattle.trees.specs.Renumber.{Renumbered, RenumberedPair}
use Rattle.trees.proofs.Lists.{total_cong, any_cong}
use Rattle.trees.proofs.Lines.{antisym, low_node}
use Rattle.trees.proofs.Kids.{node_has, has_kids, kid_first, kid_second}
use Rattle.trees.proofs.Sound.{trees, home_is}
use Rattle.trees.proofs.Renumber.{moved_in, moved_again, moved_below, moved_eqb, moved_is_leaf, moved_leaf, moved_two, moved_depth, moved_home}
use Rattle.trees.proofs.Renumber.{back_in, moved_back, up_back, leaf_back, inner_back, total_nodes, total_kids, any_kids, sound_fits, renumbered_sound, pair_back}
use Rattle.histories.specs.Places.{place}
use Rattle.histories.specs.Histories.{History, label, least, depth_in, edge, losses_at, losses, climbs_at, climbs, duplications, speciations}
use Rattle.histories.specs.Legal.{Legal, Apart}
use Rattle.histories.specs.Renumber.{Carried, carried, SameSet, SameCounts}
use Rattle.histories.proofs.Places.{place_over, place_under, place_node}
use Rattle.histories.proofs.Legal.{least_legal, kind_inner}
use Rattle.histories.proofs.Sides.{inner_kid}

-- ---- counts: sums over gene nodes and over their children, taken over the new numbers

module _ {w w' : Pair} {σs ρs σg ρg : ℕ → ℕ} (N : RenumberedPair w w' σs ρs σg ρg) (F : length w.gp ≤ none) where
  same_sum : (f f' : ℕ → ℕ) → ((g : ℕ) → g < length w.gp → f' (σg g) ≡ f g) → total f' (nodes w'.gp) ≡ total f (nodes w.gp)
  same_sum f f' e = total_nodes N.genes f' ∙ total_cong (λ g. f' (σg g)) f (nodes w.gp) (λ g t. e g (node_has w.gp t))

  same_edges : (f f' : ℕ → ℕ → ℕ) → ((g c : ℕ) → g < length w.gp → c < length w.gp → f' (σg g) (σg c) ≡ f g c)
      → total (λ g. total (f' g) (kids w'.gp g)) (nodes w'.gp) ≡ total (λ g. total (f g) (kids w.gp g)) (nodes w.gp)
  same_edges f f' e =
      same_sum (λ g. total (f g) (kids w.gp g)) (λ g. total (f' g) (kids w'.gp g))
      (λ g l. total_kids N.genes F (f' (σg g)) g l
      ∙ total_cong (λ c. f' (σg g) (σg c)) (f g) (kids w.gp g) (λ c t. e g c l (has_kids w.gp t).0))

  module _ {h h' : History} (C : Carried w h h' σs σg) (P : (g : ℕ) → g < length w.gp → h.at g < length w.sp)
      (d d' : ℕ → ℕ) (D : (s : ℕ) → s < length w.sp → d' (σs s) ≡ d s) where
    same_depth : (g : ℕ) → g < length w.gp → d' (h'.at (σg g)) ≡ d (h.at g)
    same_depth g l = ap d' (C.places g l) ∙ D (h.at g) (P g l)

    -- a history carried along counts the same
    pub carried_counts : SameCounts d d' w w' h h'
    unfolding duplications speciations losses losses_at edge climbs climbs_at
    carried_counts =
        let ds : duplications w'.gp h' ≡ duplications w.gp h =
        same_sum (λ g. one (eqb (h.kind g) 2)) (λ g. one (eqb (h'.kind g) 2)) (λ g l. rw (C.labels g l)) in
        let ls : losses d' w'.gp h' ≡ losses d w.gp h = same_edges (edge d h) (edge d' h') (λ g c l m. rw (same_depth g l, same_depth c m, C.labels g l)) in
        record {
          same_duplications = ds;
          same_speciations = same_sum (λ g. one (eqb (h.kind g) 1)) (λ g. one (eqb (h'.kind g) 1)) (λ g l. rw (C.labels g l));
          same_losses = ls;
          same_climbs = same_edges (λ g c. d (h.at c) - d (h.at g)) (λ g c. d' (h'.at c) - d' (h'.at g)) (λ g c l m. rw (same_depth g l, same_depth c m));
          same_cost = λ dw lw. rw (ds, ls);
        }

-- ---- the least history

module _ {w w' : Pair} {σs ρs σg ρg : ℕ → ℕ} (S : Sound w) (N : RenumberedPair w w' σs ρs σg ρg) where
  abbrev S' : Sound w'
  S' = renumbered_sound S N

  abbrev Fs : length w.sp ≤ none
  Fs = sound_fits S.species.tree

  abbrev Fg : length w.gp ≤ none
  Fg = sound_fits S.genes

  -- The homes below σg g are the new numbers of the homes below g. So the place of σg g is at or below the new number of g's place, and
  -- the other way round.
  moved_over : (g : ℕ) → g < length w.gp → Below w'.sp (σs (place w g)) (place w' (σg g))
  moved_over g l =
      place_under S' (σg g) (σs (place w g)) (moved_in N.genes g l) (λ y e b.
      let m = low_node b in
      let x = ρg y in
      let h = back_in N.genes y m in
      let f = leaf_back N.genes Fg y m e in
      let z = sym (moved_again N.genes y m) in
      rw (z, moved_home S N x h f) (moved_below N.species (place_over S g x f (moved_back N.genes Fg (rw z at b) l h))))

  moved_under : (g : ℕ) → g < length w.gp → Below w'.sp (place w' (σg g)) (σs (place w g))
  moved_under g l =
      let p = place w' (σg g) in
      let m = place_node S' (σg g) (moved_in N.genes g l) in
      let z = moved_again N.species p m in
      let k = place_under S g (ρs p) l (λ x e b.
      let h = low_node b in
      let c = place_over S' (σg g) (σg x) (moved_leaf N.genes Fg x h e) (moved_below N.genes b) in
      moved_back N.species Fs (rw (z, sym (moved_home S N x h e)) c) (back_in N.species p m) (home_is S x h e).0) in
      rw z at (moved_below N.species k)

  pub moved_place : (g : ℕ) → g < length w.gp → place w' (σg g) ≡ σs (place w g)
  moved_place g l = antisym (trees S').s.ground (moved_over g l) (moved_under g l)

  -- the same children share its place
  same_shared : (g : ℕ) → g < length w.gp
      → any (λ c. eqb (place w' c) (place w' (σg g))) (kids w'.gp (σg g)) ≡ any (λ c. eqb (place w c) (place w g)) (kids w.gp g)
  same_shared g l =
      any_kids N.genes Fg (λ c. eqb (place w' c) (place w' (σg g))) g l
      ∙ any_cong (λ c. eqb (place w' (σg c)) (place w' (σg g))) (λ c. eqb (place w c) (place w g)) (kids w.gp g)
      (λ c t. let m = (has_kids w.gp t).0 in
      rw (moved_place c m, moved_place g l) (moved_eqb N.species.numbers (place_node S c m) (place_node S g l)))

  pub moved_label : (g : ℕ) → g < length w.gp → label w' (σg g) ≡ label w g
  unfolding label
  moved_label g l = rw (moved_is_leaf N.genes Fg g l, same_shared g l)

  -- the least history is carried along
  pub moved_least : Carried w (least w) (least w') σs σg
  moved_least = record { places = moved_place; labels = moved_label }

-- ---- any legal history

-- one of x and y is at or below a, the other at or below b: Apart, with the two sides named
abbrev OnSides : List ℕ → ℕ → ℕ → ℕ → ℕ → Type 0
OnSides sp a b x y = (Below sp a x × Below sp b y) ⊎ (Below sp b x × Below sp a y)

module _ {sp : List ℕ} {a b x y : ℕ} where
  sides_turn : OnSides sp a b x y → OnSides sp b a x y
  sides_turn (inl k) = inr k
  sides_turn (inr k) = inl k

  sides_swap : OnSides sp a b x y → OnSides sp a b y x
  sides_swap (inl k) = inr (k.1, k.0)
  sides_swap (inr k) = inl (k.1, k.0)

module _ {sp sp' st : List ℕ} {σ ρ : ℕ → ℕ} (S : SoundTree sp st) (N : Renumbered sp sp' σ ρ) where
  moved_sides : {a b x y : ℕ} → OnSides sp a b x y → OnSides sp' (σ a) (σ b) (σ x) (σ y)
  moved_sides (inl k) = inl (moved_below N k.0, moved_below N k.1)
  moved_sides (inr k) = inr (moved_below N k.0, moved_below N k.1)

  -- different sides stay different: the two children of σ s are the new numbers of the two of s, in one order or the other
  pub moved_apart : (s x y : ℕ) → s < length sp → Apart sp s x y → Apart sp' (σ s) (σ x) (σ y)
  moved_apart s x y l A =
      let i : Inner sp s = elim A [ inl b ↦ inner_kid S s 0 x l b.0 | inr b ↦ inner_kid S s 1 x l b.0 ] in
      elim (moved_two N (sound_fits S) s l i)
      [ inl e ↦ rw (e.0, e.1) (moved_sides A) | inr e ↦ rw (e.0, e.1) (sides_turn (moved_sides A)) ]

module _ {w w' : Pair} {σs ρs σg ρg : ℕ → ℕ} (S : Sound w) (N : RenumberedPair w w' σs ρs σg ρg) where
  module _ {h h' : History} (C : Carried w h h' σs σg) where
    at_back : (y : ℕ) → y < length w'.gp → h'.at y ≡ σs (h.at (ρg y))
    at_back y l = ap (λ z. h'.at z) (sym (moved_again N.genes y l)) ∙ C.places (ρg y) (back_in N.genes y l)

    kind_back : (y : ℕ) → y < length w'.gp → h'.kind y ≡ h.kind (ρg y)
    kind_back y l = ap (λ z. h'.kind z) (sym (moved_again N.genes y l)) ∙ C.labels (ρg y) (back_in N.genes y l)

    module _ {counted counted' : ℕ → Bool} (K : SameSet w.sp counted counted' σs) (L : Legal w counted h) where
      -- the two children of σg g are the new numbers of the two of g, in one order or the other
      sides_at : (g : ℕ) → g < length w.gp → h.kind g ≡ 1 → Apart w'.sp (h'.at (σg g)) (h'.at (kid w'.gp (σg g) 0)) (h'.at (kid w'.gp (σg g) 1))
      sides_at g l e =
          let i = kind_inner S L g l (λ z. omega (arith, e, z)) in
          let a = kid w.gp g 0 in
          let b = kid w.gp g 1 in
          let A : Apart w'.sp (h'.at (σg g)) (h'.at (σg a)) (h'.at (σg b)) =
          rw (C.places g l, C.places a (kid_first w.gp g i).0, C.places b (kid_second w.gp g i).0)
          (moved_apart S.species.tree N.species (h.at g) (h.at a) (h.at b) (L.at_node g l) (L.sides g l e)) in
          elim (moved_two N.genes (sound_fits S.genes) g l i) [
            | inl k ↦ rw (k.0, k.1) A
            | inr k ↦ rw (k.0, k.1) (sides_swap A)
          ]

      -- a legal history carried along is legal
      pub carried_legal : Legal w' counted' h'
      carried_legal =
          let Fg = sound_fits S.genes in
          record {
            at_node = λ y l. rw (at_back y l) (moved_in N.species (h.at (ρg y)) (L.at_node (ρg y) (back_in N.genes y l)));
            at_counted = λ y l.
                let m = back_in N.genes y l in rw (at_back y l, K.same (h.at (ρg y)) (L.at_node (ρg y) m)) (L.at_counted (ρg y) m);
            leaf_kind = λ y l e. kind_back y l ∙ L.leaf_kind (ρg y) (back_in N.genes y l) (leaf_back N.genes Fg y l e);
            inner_kind = λ y l i. rw (kind_back y l) (L.inner_kind (ρg y) (back_in N.genes y l) (inner_back N.genes Fg y l i));
            leaf_at = λ y l e.
                let m = back_in N.genes y l in
                let f = leaf_back N.genes Fg y l e in
                at_back y l ∙ ap σs (L.leaf_at (ρg y) m f) ∙ sym (moved_home S N (ρg y) m f) ∙ ap (home w') (moved_again N.genes y l);
            descent = λ y l u.
                let k = up_back N.genes Fg y l u in
                rw (at_back y l, k.1, C.places (up w.gp (ρg y)) k.0) (moved_below N.species (L.descent (ρg y) (back_in N.genes y l) k.0));
            sides = λ y l e. rw (moved_again N.genes y l) at (sides_at (ρg y) (back_in N.genes y l) (sym (kind_back y l) ∙ e));
          }

      -- and counts the same
      pub legal_counts : SameCounts (depth w.sp counted) (depth w'.sp counted') w w' h h'
      legal_counts =
          carried_counts N (sound_fits S.genes) C L.at_node (depth w.sp counted) (depth w'.sp counted')
          (moved_depth N.species (sound_fits S.species.tree) counted counted' K.same)

-- ---- and back again

module _ {w w' : Pair} {σs ρs σg ρg : ℕ → ℕ} (N : RenumberedPair w w' σs ρs σg ρg) where
  carried_back : {h h' : History} → ((g : ℕ) → g < length w.gp → h.at g < length w.sp) → Carried w h h' σs σg → Carried w' h' h ρs ρg
  carried_back {h} {h'} P C =
      record {
        places = λ y l.
            let m = back_in N.genes y l in
            sym (N.species.numbers.back_there (h.at (ρg y)) (P (ρg y) m))
            ∙ ap ρs (sym (C.places (ρg y) m) ∙ ap (λ z. h'.at z) (moved_again N.genes y l));
        labels = λ y l. sym (C.labels (ρg y) (back_in N.genes y l)) ∙ ap (λ z. h'.kind z) (moved_again N.genes y l);
      }

  set_back : {c c' : ℕ → Bool} → SameSet w.sp c c' σs → SameSet w'.sp c' c ρs
  set_back {c' = c'} K =
      record { same = λ s l. sym (K.same (ρs s) (back_in N.species s l)) ∙ ap c' (moved_again N.species s l) }

  -- there is such a history
  pub carried_is : (h : History) → Carried w h (carried σs ρg h) σs σg
  carried_is h =
      record {
        places = λ g l. ap (λ x. σs (h.at x)) (N.genes.numbers.back_there g l);
        labels = λ g l. ap (λ x. h.kind x) (N.genes.numbers.back_there g l);
      }

-- ---- the two theorems

module _ {w w' : Pair} {σs ρs σg ρg : ℕ → ℕ} (S : Sound w) (N : RenumberedPair w w' σs ρs σg ρg) where
  -- Renumber both trees in any way: the least history is the renumbered one, place by place and label by label, and duplications,
  -- speciations, losses, climbs and cost are the same.
  pub renumbered : Carried w (least w) (least w') σs σg × SameCounts (depth_in w) (depth_in w') w w' (least w) (least w')
  renumbered = (moved_least S N, legal_counts S N (moved_least S N) (record { same = λ s l. refl }) (least_legal S))

  module _ {counted counted' : ℕ → Bool} {h h' : History} (C : Carried w h h' σs σg) (K : SameSet w.sp counted counted' σs) where
    -- So with any legal history: renumbered, it is legal for the renumbered trees and counts the same.
    pub renumbered_legal : Legal w counted h → Legal w' counted' h' × SameCounts (depth w.sp counted) (depth w'.sp counted') w w' h h'
    renumbered_legal L = (carried_legal S N C K L, legal_counts S N C K L)

    -- A history that sits at species nodes is legal exactly if the renumbered one is.
    pub legal_same : ((g : ℕ) → g < length w.gp → h.at g < length w.sp) → Legal w counted h ↔ Legal w' counted' h'
    legal_same P =
        (carried_legal S N C K, carried_legal (renumbered_sound S N) (pair_back S N) (carried_back N P C) (set_back N K))
