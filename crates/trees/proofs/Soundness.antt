-- The rules 1 to 6 and 38 all pass exactly if the tables are sound. Assumes nothing.
use Prim.Native.Nat.{ℕ, ◌≤◌, ◌<◌}
use native.Mathlib.Omega.{arith}
use native.Mathlib.Decide.{ℕ_discrete, dec_lt}
use mathlib.Core.Path.{◌≡◌, sym, ap, ◌∙◌}
use mathlib.Core.Logic.{◌⊎◌, inl, inr, ◌≢◌, ◌↔◌}
use mathlib.Core.Bool.{Bool, ◌&&◌, not}
use mathlib.Core.List.{List, [], ◌∷◌}
use lib.ListN.{length}
use lib.Dec.{T, eqb, ltb, leb, eqb→eq, eqb_refl, ltb→lt, lt→ltb, leb→le, le→leb, T_not, not_T}
use borrow.Author.Tests.{ne_eqb}
use Rattle.trees.specs.Lists.{range, any, pick}
use Rattle.trees.specs.Trees.{none, up, is_root, nodes, kids, Leaf, Inner, is_leaf}
use Rattle.trees.specs.Tables.{taxon, Pair}
use Rattle.trees.specs.Sound.{SoundTree, Distinct, Known, SoundSpecies, Sound}
use Rattle.trees.specs.Rulings.{accepted, whole, each, verdict, fine, Passes, Every, done, and}
use Rattle.trees.specs.Rules.{sized, parented, topped, reaching, paired, marked, fresh, known, root_rules, child_rules, shape_rules, species_rules, family_rules, gene_rules, pair_rules}
use Rattle.trees.proofs.Bools.{or_left, or_right, or_cases, and_both, and_left, and_right, test, T_true, true_T}
use Rattle.trees.proofs.Lists.{any_has, has_any, has_range, range_has}
use Rattle.trees.proofs.Kids.{has_node, node_has}
use Rattle.trees.proofs.Lines.{top_node}
use Rattle.trees.proofs.Reach.{below_above, reaching_is}
use Rattle.trees.proofs.Sound.{below_root, leaf_is, is_leaf_lem, not_leaf}
use Rattle.trees.proofs.Rulings.{ruling_accepted, ruling_passes, every_join, every_left, every_right, every_head, every_tail}

-- ---- one tree

pub record Sized (par tax : List ℕ) : Type 0 where
  pub some : 1 ≤ length par
  pub few : length par ≤ 2047
  pub even : length tax ≡ length par

pub sized_is : (par tax : List ℕ) → T (sized par tax) → Sized par tax
unfolding sized
sized_is par tax t =
    let n = length par in
    let a = leb 1 n in
    let b = leb n 2047 in
    let c = eqb (length tax) n in
    let l = and_left (a && b) c t in
    record { some = leb→le 1 n (and_left a b l); few = leb→le n 2047 (and_right a b l); even = eqb→eq (length tax) n (and_right (a && b) c t) }

pub is_sized : (par tax : List ℕ) → Sized par tax → T (sized par tax)
unfolding sized
is_sized par tax s =
    let n = length par in
    and_both (leb 1 n && leb n 2047) (eqb (length tax) n)
    (and_both (leb 1 n) (leb n 2047) (le→leb 1 n s.some) (le→leb n 2047 s.few))
    (rw s.even (eqb_refl n))

-- what rule 2 gives: one root, and every other parent under n
pub record Topped (par : List ℕ) : Type 0 where
  pub root : ℕ
  pub root_in : root < length par
  pub root_up : up par root ≡ none
  pub others : (i : ℕ) → i < length par → i ≢ root → up par i < length par

module _ (par : List ℕ) where
  pub root_is : (i : ℕ) → T (is_root par i) → up par i ≡ none
  unfolding is_root
  root_is i t = eqb→eq (up par i) none t

  pub is_root_top : (i : ℕ) → up par i ≡ none → T (is_root par i)
  unfolding is_root
  is_root_top i e = rw e tt

  -- a parent under n, or the first root
  pub parented_is : (i : ℕ) → T (parented par i) → (up par i < length par) ⊎ ((up par i ≡ none) × ((j : ℕ) → j < i → up par j ≢ none))
  unfolding parented
  parented_is i t =
      let a = ltb (up par i) (length par) in
      let b = any (is_root par) (range 0 i) in
      elim (or_cases a (is_root par i && not b) t) [
        | inl l ↦ inl (ltb→lt (up par i) (length par) l)
        | inr r ↦ inr (
          root_is i (and_left (is_root par i) (not b) r),
          λ j h e.
              T_not b (and_right (is_root par i) (not b) r) (any_has (is_root par) j (range 0 i) (has_range 0 i j (omega arith) (omega arith)) (is_root_top j e)),
        )
      ]

  pub parent_parented : (i : ℕ) → up par i < length par → T (parented par i)
  unfolding parented
  parent_parented i h = or_left (ltb (up par i) (length par)) (is_root par i && not (any (is_root par) (range 0 i))) (lt→ltb (up par i) (length par) h)

  pub root_parented : (i : ℕ) → up par i ≡ none → ((j : ℕ) → j < i → up par j ≢ none) → T (parented par i)
  unfolding parented
  root_parented i e f =
      let b = any (is_root par) (range 0 i) in
      or_right (ltb (up par i) (length par)) (is_root par i && not b)
      (and_both (is_root par i) (not b) (is_root_top i e)
      (not_T b (λ t. let k = has_any (is_root par) (range 0 i) t in f k.0 (omega (arith, range_has 0 i k.0 k.1)) (root_is k.0 k.2))))

  -- of two roots the higher number would be refused
  pub topped_is : length par ≤ none → ((i : ℕ) → i < length par → T (parented par i)) → T (topped par) → Topped par
  unfolding topped
  topped_is few f t =
      let k = has_any (is_root par) (nodes par) t in
      let r = k.0 in
      let h = node_has par k.1 in
      let e = root_is r k.2 in
      record {
        root = r;
        root_in = h;
        root_up = e;
        others = λ i l n. elim (parented_is i (f i l)) [
          | inl u ↦ u
          | inr z ↦ elim (dec_lt r i) [
            | yes m ↦ absurd (z.1 r m e)
            | no m ↦ elim (parented_is r (f r h)) [ inl u ↦ absurd (omega (arith, u, e)) | inr y ↦ absurd (y.1 i (omega arith) z.0) ]
          ]
        ];
      }

  pub is_parented : Topped par → length par ≤ none → (i : ℕ) → i < length par → T (parented par i)
  is_parented Z f i h =
      elim (ℕ_discrete i Z.root) [
        | yes e ↦ root_parented i (ap (up par) e ∙ Z.root_up) (λ j l u. omega (arith, Z.others j (omega arith) (omega arith)))
        | no n ↦ parent_parented i (Z.others i h n)
      ]

  pub is_topped : Topped par → T (topped par)
  unfolding topped
  is_topped Z = any_has (is_root par) Z.root (nodes par) (has_node par Z.root_in) (is_root_top Z.root Z.root_up)

  pub paired_is : (i : ℕ) → T (paired par i) → Leaf par i ⊎ Inner par i
  unfolding paired
  paired_is i t =
      let k = length (kids par i) in
      elim (or_cases (eqb k 0) (eqb k 2) t) [ inl e ↦ inl (eqb→eq k 0 e) | inr e ↦ inr (eqb→eq k 2 e) ]

  pub is_paired : (i : ℕ) → Leaf par i ⊎ Inner par i → T (paired par i)
  unfolding paired
  is_paired i (inl e) = rw e tt
  is_paired i (inr e) = rw e tt

module _ (par tax : List ℕ) where
  pub marked_leaf : (i : ℕ) → Leaf par i → T (marked par tax i) → taxon tax i ≢ 0
  unfolding marked pick
  marked_leaf i e t z = T_not (eqb (taxon tax i) 0) (rw (T_true {b = is_leaf par i} (is_leaf_lem par i e)) at t) (rw z tt)

  pub marked_inner : (i : ℕ) → Inner par i → T (marked par tax i) → taxon tax i ≡ 0
  unfolding marked pick
  marked_inner i e t = eqb→eq (taxon tax i) 0 (rw (not_leaf par i e) at t)

  pub is_marked : (i : ℕ) → (Leaf par i × (taxon tax i ≢ 0)) ⊎ (Inner par i × (taxon tax i ≡ 0)) → T (marked par tax i)
  unfolding marked pick
  is_marked i (inl p) = rw (T_true {b = is_leaf par i} (is_leaf_lem par i p.0), ne_eqb (taxon tax i) 0 p.1) tt
  is_marked i (inr p) = rw (not_leaf par i p.0, p.1) tt

  only_root : (Z : Topped par) (r : ℕ) → r < length par → up par r ≡ none → length par ≤ none → r ≡ Z.root
  only_root Z r h e f = elim (ℕ_discrete r Z.root) [ yes q ↦ q | no n ↦ absurd (omega (arith, e, f, Z.others r h n)) ]

  -- rules 1 to 4 and 38 of one tree, whichever it is
  pub tree_sound : (t : ℕ) → T (sized par tax) → Every Passes (shape_rules t par tax) → SoundTree par tax
  unfolding shape_rules root_rules child_rules
  tree_sound t s (and o (and a (and c (and k (and m done))))) =
      let z = sized_is par tax s in
      let n : length par ≤ 2047 = z.few in
      let Z = topped_is par (omega arith) o a in
      record {
        some = z.some;
        few = z.few;
        even = z.even;
        root = Z.root;
        root_in = Z.root_in;
        root_up = Z.root_up;
        others = Z.others;
        reach = λ i l. let R = (reaching_is par (omega arith) i).0 (c i l) in below_above (rw (only_root Z R.0 (top_node R.2) (root_is par R.0 R.1) (omega arith)) at R.2);
        two = λ i l. paired_is par i (k i l);
        leaf_tax = λ i l e. marked_leaf i e (m i l);
        inner_tax = λ i l e. marked_inner i e (m i l);
      }

  pub sound_size : SoundTree par tax → T (sized par tax)
  sound_size S = is_sized par tax (record { some = S.some; few = S.few; even = S.even })

  pub sound_shape : (t : ℕ) → SoundTree par tax → Every Passes (shape_rules t par tax)
  unfolding shape_rules root_rules child_rules
  sound_shape t S =
      let n : length par ≤ 2047 = S.few in
      let Z : Topped par = record { root = S.root; root_in = S.root_in; root_up = S.root_up; others = S.others } in
      and {r = each 2 t (length par) (parented par)} (is_parented par Z (omega arith))
      (and {r = whole 2 t none (topped par)} (is_topped par Z)
      (and {r = each 38 t (length par) (reaching par)} (λ i l. (reaching_is par (omega arith) i).1 (S.root, is_root_top par S.root S.root_up, below_root S i l))
      (and {r = each 3 t (length par) (paired par)} (λ i l. is_paired par i (S.two i l))
      (and {r = each 4 t (length par) (marked par tax)} (λ i l. is_marked i (elim (S.two i l) [ inl e ↦ inl (e, S.leaf_tax i l e) | inr e ↦ inr (e, S.inner_tax i l e) ]))
      done))))

-- ---- rule 5

-- no leaf at a lower number has the taxon of i
pub fresh_is : (sp st : List ℕ) (i j : ℕ) → j < i → Leaf sp i → Leaf sp j → T (fresh sp st i) → taxon st j ≢ taxon st i
unfolding fresh
fresh_is sp st i j h e f t q =
    let p : ℕ → Bool = λ k. is_leaf sp k && eqb (taxon st k) (taxon st i) in
    T_not (is_leaf sp i && any p (range 0 i)) t
    (and_both (is_leaf sp i) (any p (range 0 i)) (is_leaf_lem sp i e)
    (any_has p j (range 0 i) (has_range 0 i j (omega arith) (omega arith)) (and_both (is_leaf sp j) (eqb (taxon st j) (taxon st i)) (is_leaf_lem sp j f) (rw q (eqb_refl (taxon st i))))))

pub is_fresh : (sp st : List ℕ) (i : ℕ) → (Leaf sp i → (j : ℕ) → j < i → Leaf sp j → taxon st j ≢ taxon st i) → T (fresh sp st i)
unfolding fresh
is_fresh sp st i f =
    let p : ℕ → Bool = λ k. is_leaf sp k && eqb (taxon st k) (taxon st i) in
    not_T (is_leaf sp i && any p (range 0 i))
    (λ t. let k = has_any p (range 0 i) (and_right (is_leaf sp i) (any p (range 0 i)) t) in
    let j = k.0 in
    f (leaf_is sp i (and_left (is_leaf sp i) (any p (range 0 i)) t)) j (omega (arith, range_has 0 i j k.1))
    (leaf_is sp j (and_left (is_leaf sp j) (eqb (taxon st j) (taxon st i)) k.2)) (eqb→eq (taxon st j) (taxon st i) (and_right (is_leaf sp j) (eqb (taxon st j) (taxon st i)) k.2)))

fresh_distinct : (sp st : List ℕ) → ((i : ℕ) → i < length sp → T (fresh sp st i)) → Distinct sp st
fresh_distinct sp st f i j a b e g q =
    elim (ℕ_discrete i j) [
      | yes z ↦ z
      | no z ↦ elim (dec_lt i j) [ yes l ↦ absurd (fresh_is sp st j i l g e (f j b) q) | no l ↦ absurd (fresh_is sp st i j (omega arith) e g (f i a) (sym q)) ]
    ]

distinct_fresh : (sp st : List ℕ) → Distinct sp st → (i : ℕ) → i < length sp → T (fresh sp st i)
distinct_fresh sp st D i a = is_fresh sp st i (λ e j l f q. absurd (omega (arith, D i j a (omega arith) e f (sym q))))

-- ---- rule 6

-- some species leaf has the taxon of x
abbrev pub Carried : Pair → ℕ → Type 0
Carried w x = (s : ℕ) × (s < length w.sp) × Leaf w.sp s × (taxon w.st s ≡ taxon w.gt x)

pub known_is : (w : Pair) (x : ℕ) → T (known w x) → Leaf w.gp x → Carried w x
unfolding known
known_is w x f e =
    let p : ℕ → Bool = λ s. is_leaf w.sp s && eqb (taxon w.st s) (taxon w.gt x) in
    let t : T (any p (nodes w.sp)) =
    elim (or_cases (not (is_leaf w.gp x)) (any p (nodes w.sp)) f) [ inl n ↦ absurd (T_not (is_leaf w.gp x) n (is_leaf_lem w.gp x e)) | inr r ↦ r ] in
    let k = has_any p (nodes w.sp) t in
    let s = k.0 in (
      s,
      node_has w.sp k.1,
      leaf_is w.sp s (and_left (is_leaf w.sp s) (eqb (taxon w.st s) (taxon w.gt x)) k.2),
      eqb→eq (taxon w.st s) (taxon w.gt x) (and_right (is_leaf w.sp s) (eqb (taxon w.st s) (taxon w.gt x)) k.2),
    )

pub is_known : (w : Pair) (x : ℕ) → (Leaf w.gp x → Carried w x) → T (known w x)
unfolding known
is_known w x K =
    let p : ℕ → Bool = λ s. is_leaf w.sp s && eqb (taxon w.st s) (taxon w.gt x) in
    elim (test (is_leaf w.gp x)) [
      | inl e ↦
          let k = K (leaf_is w.gp x (true_T e)) in
          let s = k.0 in
          or_right (not (is_leaf w.gp x)) (any p (nodes w.sp))
          (any_has p s (nodes w.sp) (has_node w.sp k.1) (and_both (is_leaf w.sp s) (eqb (taxon w.st s) (taxon w.gt x)) (is_leaf_lem w.sp s k.2) (rw k.3 (eqb_refl (taxon w.gt x)))))
      | inr e ↦ or_left (not (is_leaf w.gp x)) (any p (nodes w.sp)) (rw e tt)
    ]

-- ---- the theorems

-- the species rules all pass exactly if the species tables are sound
pub species_sound : (sp st : List ℕ) → Every Passes (species_rules sp st) ↔ SoundSpecies sp st
unfolding species_rules
species_sound sp st =
    let last = each 5 1 (length sp) (fresh sp st) ∷ [] in (
      (λ p. let q = every_tail p in
          record { tree = tree_sound sp st 1 (every_head p) (every_left (shape_rules 1 sp st) last q); once = fresh_distinct sp st (every_head (every_right (shape_rules 1 sp st) last q)) }),
      (λ S. and (sound_size sp st S.tree) (every_join (shape_rules 1 sp st) last (sound_shape sp st 1 S.tree) (and (distinct_fresh sp st S.once) done))),
    )

-- the gene rules but the first all pass exactly if the gene tables of a right size are sound on the species tables
pub family_sound : (w : Pair) → T (sized w.gp w.gt) → Every Passes (family_rules w) ↔ (SoundTree w.gp w.gt × Known w)
unfolding family_rules
family_sound w s =
    let shape = shape_rules 2 w.gp w.gt in
    let last = each 6 2 (length w.gp) (known w) ∷ [] in (
      (λ p. (tree_sound w.gp w.gt 2 s (every_left shape last p), λ x h e. known_is w x (every_head (every_right shape last p) x h) e)),
      (λ S. every_join shape last (sound_shape w.gp w.gt 2 S.0) (and {r = each 6 2 (length w.gp) (known w)} (λ x h. is_known w x (S.1 x h)) done)),
    )

-- all rules 1 to 6 and 38 pass exactly if both trees are sound
pub pair_sound : (w : Pair) → Every Passes (pair_rules w) ↔ Sound w
unfolding pair_rules gene_rules
pair_sound w =
    let ss = species_rules w.sp w.st in (
      (λ p. let q = every_right ss (gene_rules w) p in
          let f = (family_sound w (every_head q)).0 (every_tail q) in
          record { species = (species_sound w.sp w.st).0 (every_left ss (gene_rules w) p); genes = f.0; known = f.1 }),
      (λ S. let s = sound_size w.gp w.gt S.genes in
          every_join ss (gene_rules w) ((species_sound w.sp w.st).1 S.species) (and s ((family_sound w s).1 (S.genes, S.known)))),
    )

-- a judge's ruling is `accepted` exactly if the tables obey the written rules
pub species_accepted : (sp st : List ℕ) → (verdict (species_rules sp st) ≡ accepted fine) ↔ SoundSpecies sp st
species_accepted sp st = (
  (λ e. (species_sound sp st).0 (ruling_accepted (species_rules sp st) fine fine e).0),
  (λ S. ruling_passes (species_rules sp st) fine ((species_sound sp st).1 S)),
)

pub pair_accepted : (w : Pair) → (verdict (pair_rules w) ≡ accepted fine) ↔ Sound w
pair_accepted w = (
  (λ e. (pair_sound w).0 (ruling_accepted (pair_rules w) fine fine e).0),
  (λ S. ruling_passes (pair_rules w) fine ((pair_sound w).1 S)),
)
