-- The turns of the loops that fill the tables, each as one law. Assumes nothing.
use Prim.Native.Nat.{ℕ, ◌+◌, ◌≤◌, ◌<◌}
use native.Mathlib.Omega.{arith}
use native.Mathlib.Decide.{ℕ_discrete}
use mathlib.Core.Path.{◌≡◌, refl, ◌∙◌}
use mathlib.Core.Logic.{inl, inr, ◌≢◌}
use mathlib.Core.List.{List}
use lib.ListN.{length, get_or, set, length-set}
use lib.Seq.{drop-set-lt, get_or-set_same, get_or-set_other}
use Rattle.trees.specs.Lists.{one}
use Rattle.trees.specs.Trees.{none, up, Leaf, Inner, depth}
use Rattle.trees.specs.Tables.{Pair, home, taxon}
use Rattle.trees.specs.Sound.{Sound}
use Rattle.trees.proofs.Lines.{up_at, depth_up}
use Rattle.trees.proofs.Sound.{trees}
use Rattle.histories.specs.Histories.{every_node}
use Rattle.fills.specs.Filling.{Filling, Kept, kind_of, Ready, Finished, Rising, Risen, Marked, Taking, FilledFrom}
use Rattle.fills.specs.Promises.{Fillable}
use Rattle.fills.proofs.Filling.{fill_start, fill_leaf, fill_inner, fill_root, fill_half, fill_done, fill_end, second, second_in}

pub kept_self : (q : ℕ) (l : List ℕ) → Kept q l l
kept_self q l = record { size = refl; rest = refl }

pub kept_join : {q : ℕ} {a b c : List ℕ} → Kept q a b → Kept q b c → Kept q a c
kept_join K L = record { size = L.size ∙ K.size; rest = L.rest ∙ K.rest }

pub kept_set : {q : ℕ} {a b : List ℕ} (u x : ℕ) → u < q → Kept q a b → Kept q a (set b u x)
kept_set {q} {a} {b} u x h K = record { size = length-set b u x ∙ K.size; rest = drop-set-lt q b u x h ∙ K.rest }

-- on the way up from leaf k, at v
pub record Going (w : Pair) (k v : ℕ) (p₀ p l₀ l : List ℕ) : Type 0 where
  pub inside : v < length w.gp
  pub filling : Filling w (k + 1) v p l
  pub places_kept : Kept (length w.gp) p₀ p
  pub labels_kept : Kept (length w.gp) l₀ l

module _ {w : Pair} {k : ℕ} {p₀ l₀ : List ℕ} (R : Rising w k p₀ l₀) where
  pub going_start : Going w k k p₀ p₀ l₀ l₀
  going_start = record { inside = R.inside; filling = R.filling; places_kept = kept_self (length w.gp) p₀; labels_kept = kept_self (length w.gp) l₀ }

  module _ {v : ℕ} {p l : List ℕ} (G : Going w k v p₀ p l₀ l) where
    pub going_root : length w.gp ≤ get_or w.gp v 0 → Risen w k p₀ p l₀ l
    going_root b = record { filling = fill_root R.sound (k + 1) v p l G.filling G.inside b; places_kept = G.places_kept; labels_kept = G.labels_kept }

    module _ (b : get_or w.gp v 0 < length w.gp) where
      pub going_half : get_or l (get_or w.gp v 0) 0 ≡ 3
          → Risen w k p₀ (set p (get_or w.gp v 0) (get_or p v 0)) l₀ (set l (get_or w.gp v 0) 4)
      going_half t =
          record {
            filling = fill_half R.sound (k + 1) v p l G.filling G.inside b t;
            places_kept = kept_set (get_or w.gp v 0) (get_or p v 0) b G.places_kept;
            labels_kept = kept_set (get_or w.gp v 0) 4 b G.labels_kept;
          }

      module _ (n : get_or l (get_or w.gp v 0) 0 ≢ 3) where
        pub going_ready : Ready w.sp p l (get_or w.gp v 0) v
        going_ready =
            let u = get_or w.gp v 0 in
            let e = up_at w.gp v G.inside in
            let i = second_in R.sound v u p (second R.sound (k + 1) v u p l G.filling G.inside e b n) G.inside e b in
            record {
              tree = (w.st, R.sound.species.tree);
              few = R.sound.species.tree.few;
              u_place_in = omega (arith, G.filling.places_room);
              v_place_in = omega (arith, G.filling.places_room, G.inside);
              u_label_in = omega (arith, G.filling.labels_room);
              first_place = i.0;
              second_place = i.1;
            }

        pub going_done : (p' l' : List ℕ) → Finished w.sp (get_or w.gp v 0) v p p' l l' → Going w k (get_or w.gp v 0) p₀ p' l₀ l'
        going_done p' l' F =
            let u = get_or w.gp v 0 in
            let t = kind_of F.at (get_or p u 0) (get_or p v 0) in
            rw (F.places, F.labels) (record {
              inside = b;
              filling = fill_done R.sound (k + 1) v F.at p l G.filling G.inside b n F.meets;
              places_kept = kept_set u F.at b G.places_kept;
              labels_kept = kept_set u t b G.labels_kept;
            })

      -- and it comes nearer to the root
      pub going_nearer : depth w.gp every_node (get_or w.gp v 0) < depth w.gp every_node v
      unfolding one
      going_nearer =
          let e = up_at w.gp v G.inside in
          let u : up w.gp v < length w.gp = rw e b in
          rw (← e) (omega (arith, depth_up (trees R.sound).g.ground every_node v u))

-- ---- the leaves in turn

module _ {w : Pair} (S : Sound w) (k : ℕ) (h : k < length w.gp) where
  pub inner_of : taxon w.gt k ≡ 0 → Inner w.gp k
  inner_of t = elim (S.genes.two k h) [ inl e ↦ absurd (S.genes.leaf_tax k h e t) | inr i ↦ i ]

  pub leaf_of : taxon w.gt k ≢ 0 → Leaf w.gp k
  leaf_of n = elim (S.genes.two k h) [ inl e ↦ e | inr i ↦ absurd (n (S.genes.inner_tax k h i)) ]

module _ {w : Pair} {k : ℕ} {p l : List ℕ} (X : Taking w k p l) where
  pub take_inner : taxon w.gt k ≡ 0 → Risen w k p p l l
  take_inner t =
      record {
        filling = fill_inner X.sound k p l X.filling (inner_of X.sound k X.inside t);
        places_kept = kept_self (length w.gp) p;
        labels_kept = kept_self (length w.gp) l;
      }

  pub take_leaf : taxon w.gt k ≢ 0 → Rising w k p (set l k 0)
  take_leaf n =
      record {
        sound = X.sound;
        inside = X.inside;
        filling = fill_leaf X.sound k p l X.filling X.inside (leaf_of X.sound k X.inside n);
      }

  pub take_risen : (p' l' : List ℕ) → Risen w k p p' (set l k 0) l' → Risen w k p p' l l'
  take_risen p' l' R =
      record {
        filling = R.filling;
        places_kept = R.places_kept;
        labels_kept = kept_join (kept_set k 0 X.inside (kept_self (length w.gp) l)) R.labels_kept;
      }

-- every leaf has its place
pub record Homed (w : Pair) (p p' : List ℕ) : Type 0 where
  pub kept : Kept (length w.gp) p p'
  pub at_home : (g : ℕ) → g < length w.gp → Leaf w.gp g → get_or p' g 0 ≡ home w g

-- all leaves below k are done
pub record Filling-to (w : Pair) (k : ℕ) (p₀ p l₀ l : List ℕ) : Type 0 where
  pub filling : Filling w k none p l
  pub places_kept : Kept (length w.gp) p₀ p
  pub labels_kept : Kept (length w.gp) l₀ l

pub to_next : {w : Pair} {p₀ l₀ : List ℕ} (k : ℕ) (p p' l l' : List ℕ) → Filling-to w k p₀ p l₀ l → Risen w k p p' l l' → Filling-to w (k + 1) p₀ p' l₀ l'
to_next k p p' l l' F R =
    record { filling = R.filling; places_kept = kept_join F.places_kept R.places_kept; labels_kept = kept_join F.labels_kept R.labels_kept }

-- from the settled places p₁ and the marked labels l₁ on
module _ {w : Pair} {p₀ p₁ l₀ l₁ : List ℕ} (X : Fillable w p₀ l₀) (H : Homed w p₀ p₁) (M : Marked (length w.gp) l₀ l₁) where
  pub to_start : Filling-to w 0 p₁ p₁ l₁ l₁
  to_start =
      record {
        filling = fill_start X.sound p₁ l₁ (omega (arith, X.places_room, H.kept.size)) (omega (arith, X.labels_room, M.kept.size)) M.fresh H.at_home;
        places_kept = kept_self (length w.gp) p₁;
        labels_kept = kept_self (length w.gp) l₁;
      }

  pub to_end : (k : ℕ) (p l : List ℕ) → length w.gp ≤ k → Filling-to w k p₁ p l₁ l → FilledFrom w p₀ p l₀ l
  to_end k p l b F =
      record {
        filled = fill_end X.sound k p l b F.filling;
        places_kept = kept_join H.kept F.places_kept;
        labels_kept = kept_join M.kept F.labels_kept;
      }

-- ---- marking

pub mark_turn : (q i : ℕ) (l₀ l : List ℕ) → i < q → q ≤ length l → Kept q l₀ l → ((g : ℕ) → g < i → get_or l g 0 ≡ 3)
    → Kept q l₀ (set l i 3) × ((g : ℕ) → g < i + 1 → get_or (set l i 3) g 0 ≡ 3)
mark_turn q i l₀ l h b K f =
    (kept_set i 3 h K, λ g n. elim (ℕ_discrete g i) [ yes z ↦ rw z (get_or-set_same l i 3 0 (omega arith)) | no z ↦ get_or-set_other l i g 3 0 z ∙ f g (omega arith) ])
