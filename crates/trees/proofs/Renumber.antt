-- The same trees under other numbers: what is at or below what, children, lines, depths, homes and soundness are carried along. A law is
-- stated at the new number σ x of an old node x; one that ends in -back is stated at a node y of the new tree, whose old number is ρ y.
-- Assumes nothing.
use Prim.Native.Nat.{ℕ, zero, suc, ◌+◌, ◌≤◌, ◌<◌}
use native.Mathlib.Omega.{arith}
use native.Mathlib.Nat.{zero-add}
use native.Mathlib.Decide.{dec_lt, ℕ_discrete}
use mathlib.Core.Path.{◌≡◌, refl, sym, ap, ◌∙◌}
use mathlib.Core.Logic.{◌⊎◌, inl, inr, ◌≢◌}
use mathlib.Core.Bool.{Bool}
use mathlib.Core.List.{List, [], ◌∷◌, map}
use lib.ListN.{length}
use lib.Dec.{T, eqb}
use borrow.Author.Tests.{eq-eqb, ne_eqb}
use Rattle.trees.specs.Lists.{range, any, total, one}
use Rattle.trees.specs.Trees.{none, up, climb, line, Below, here, step, nodes, kids, kid, Leaf, Inner, is_leaf, depth}
use Rattle.trees.specs.Tables.{taxon, Pair, home}
use Rattle.trees.specs.Sound.{SoundTree, Treelike, SoundSpecies, Known, Sound}
use Rattle.trees.specs.Renumber.{Renumbering, Renumbered, CarriedTaxa, RenumberedPair}
use Rattle.trees.proofs.Bools.{T-same}
use Rattle.trees.proofs.Lists.{only, total_cong, total_swap, total_keep, total_at, range_has, any_has, has_any, length_range, get_or_range}
use Rattle.trees.proofs.Lines.{low_node, top_node, climb_in, climb_out, line_out, off_line}
use Rattle.trees.proofs.Kids.{Rooted, kids_has, has_kids, kid_first, kid_second, kid_order, either_kid}
use Rattle.trees.proofs.Roots.{all_root}
use Rattle.trees.proofs.Reach.{below_above, reach_rooted}
use Rattle.trees.proofs.Sound.{below_root, home_is, home_one}

-- ---- numbers, tests and sums

module _ {n : ℕ} {σ ρ : ℕ → ℕ} (M : Renumbering n σ ρ) where
  -- two numbers are one if their new numbers are
  pub moved_one : {x y : ℕ} → x < n → y < n → σ x ≡ σ y → x ≡ y
  moved_one {x} {y} h l e = sym (M.back_there x h) ∙ ap ρ e ∙ M.back_there y l

  pub moved_eqb : {x y : ℕ} → x < n → y < n → eqb (σ x) (σ y) ≡ eqb x y
  moved_eqb {x} {y} h l =
      elim (ℕ_discrete x y) [
        | yes e ↦ eq-eqb (σ x) (σ y) (ap σ e) ∙ sym (eq-eqb x y e)
        | no a ↦ ne_eqb (σ x) (σ y) (λ e. a (moved_one h l e)) ∙ sym (ne_eqb x y a)
      ]

  eqb_back : (i j : ℕ) → i < n → j < n → eqb (σ j) i ≡ eqb (ρ i) j
  eqb_back i j h l =
      elim (ℕ_discrete (σ j) i) [
        | yes e ↦ eq-eqb (σ j) i e ∙ sym (eq-eqb (ρ i) j (ap ρ (sym e) ∙ M.back_there j l))
        | no a ↦ ne_eqb (σ j) i a ∙ sym (ne_eqb (ρ i) j (λ z. a (ap σ (sym z) ∙ M.there_back i h)))
      ]

  -- a sum over the numbers below n may be taken over the new numbers: each number is the new number of one
  pub total_moved : (f : ℕ → ℕ) → total (λ j. f (σ j)) (range 0 n) ≡ total f (range 0 n)
  total_moved f =
      let ns = range 0 n in
      total_cong (λ j. f (σ j)) (λ j. total (λ i. only (eqb (σ j) i) (f i)) ns) ns
      (λ j t. let h : j < n = omega (arith, range_has 0 n j t) in sym (total_at f (σ j) 0 n (omega arith) (omega (arith, M.there j h))))
      ∙ total_swap (λ j i. only (eqb (σ j) i) (f i)) ns ns
      ∙ total_cong (λ i. total (λ j. only (eqb (σ j) i) (f i)) ns) f ns
      (λ i t. let h : i < n = omega (arith, range_has 0 n i t) in
      total_cong (λ j. only (eqb (σ j) i) (f i)) (λ j. only (eqb (ρ i) j) (f i)) ns
      (λ j s. ap (λ b. only b (f i)) (eqb_back i j h (omega (arith, range_has 0 n j s))))
      ∙ total_at (λ j. f i) (ρ i) 0 n (omega arith) (omega (arith, M.back i h)))

total_ones : (l : List ℕ) → total (λ x. 1) l ≡ length l
unfolding total
total_ones [] = refl
total_ones (x ∷ l) = omega (arith, total_ones l)

total_map : (f g : ℕ → ℕ) (l : List ℕ) → total f (map g l) ≡ total (λ x. f (g x)) l
unfolding total
total_map f g [] = refl
total_map f g (x ∷ l) = ap (λ v. f (g x) + v) (total_map f g l)

-- two children of an inner node are its first and its second, either way round
two_kids : (par : List ℕ) (g a b : ℕ) → Inner par g → a < length par → b < length par → up par a ≡ g → up par b ≡ g → a ≢ b
    → ((kid par g 0 ≡ a) × (kid par g 1 ≡ b)) ⊎ ((kid par g 0 ≡ b) × (kid par g 1 ≡ a))
two_kids par g a b i ha hb ua ub ne =
    elim (either_kid par g a i ha ua) [
      | inl p ↦ elim (either_kid par g b i hb ub) [ inl q ↦ absurd (ne (p ∙ sym q)) | inr q ↦ inl (sym p, sym q) ]
      | inr p ↦ elim (either_kid par g b i hb ub) [ inl q ↦ inr (sym q, sym p) | inr q ↦ absurd (ne (p ∙ sym q)) ]
    ]

-- ---- one tree

module _ {par par' : List ℕ} {σ ρ : ℕ → ℕ} (N : Renumbered par par' σ ρ) where
  -- the new number of a node is a node, and so is the old number of one
  pub moved_in : (x : ℕ) → x < length par → σ x < length par'
  moved_in x h = omega (arith, N.size, N.numbers.there x h)

  pub back_in : (y : ℕ) → y < length par' → ρ y < length par
  back_in y h = N.numbers.back y (omega (arith, N.size))

  pub moved_again : (y : ℕ) → y < length par' → σ (ρ y) ≡ y
  moved_again y h = N.numbers.there_back y (omega (arith, N.size))

  pub moved_below : {a x : ℕ} → Below par a x → Below par' (σ a) (σ x)
  moved_below {a} (here l) = here (moved_in a l)
  moved_below (step {x = x} l p) = step {x = σ x} (moved_in x l) (rw (N.parents x l (low_node p)) (moved_below p))

  -- a child's new number is a child of the new number
  pub moved_up : (c a : ℕ) → c < length par → a < length par → up par c ≡ a → up par' (σ c) ≡ σ a
  moved_up c a h l e = N.parents c h (rw e l) ∙ ap σ e

  pub total_nodes : (f : ℕ → ℕ) → total f (nodes par') ≡ total (λ x. f (σ x)) (nodes par)
  unfolding nodes
  total_nodes f = rw N.size (sym (total_moved N.numbers f))

-- 65,535 is no node
module _ {par par' : List ℕ} {σ ρ : ℕ → ℕ} (N : Renumbered par par' σ ρ) (F : length par ≤ none) where
  -- a parent in the new tree comes from one in the old
  pub up_back : (y : ℕ) → y < length par' → up par' y < length par' → (up par (ρ y) < length par) × (up par' y ≡ σ (up par (ρ y)))
  up_back y h u =
      let e : up par' (σ (ρ y)) ≡ up par' y = ap (up par') (moved_again N y h) in
      elim (dec_lt (up par (ρ y)) (length par)) [
        | yes v ↦ (v, sym e ∙ N.parents (ρ y) (back_in N y h) v)
        | no v ↦ absurd (omega (arith, N.size, e, N.tops (ρ y) (back_in N y h) (omega arith)))
      ]

  -- and back again, if every node without a parent says so by 65,535
  pub renumbered_back : ((x : ℕ) → x < length par → length par ≤ up par x → up par x ≡ none) → Renumbered par' par ρ σ
  renumbered_back top =
      record {
        size = sym N.size;
        numbers = rw N.size (record {
          there = N.numbers.back;
          back = N.numbers.there;
          there_back = N.numbers.back_there;
          back_there = N.numbers.there_back;
        });
        parents = λ y h u. let k = up_back y h u in sym (ap ρ k.1 ∙ N.numbers.back_there (up par (ρ y)) k.0);
        tops = λ y h u.
            elim (dec_lt (up par (ρ y)) (length par)) [
              | yes v ↦ absurd (omega (arith, moved_in N (up par (ρ y)) v, N.parents (ρ y) (back_in N y h) v, ap (up par') (moved_again N y h)))
              | no v ↦ top (ρ y) (back_in N y h) (omega arith)
            ];
      }

  below_back : {a x : ℕ} → Below par' a x → Below par (ρ a) (ρ x)
  below_back {a} (here l) = here (back_in N a l)
  below_back (step {x = x} l p) =
      let k = up_back x l (low_node p) in
      let e : ρ (up par' x) ≡ up par (ρ x) = ap ρ k.1 ∙ N.numbers.back_there (up par (ρ x)) k.0 in
      step {x = ρ x} (back_in N x l) (rw (sym e) (below_back p))

  pub moved_back : {a x : ℕ} → Below par' (σ a) (σ x) → a < length par → x < length par → Below par a x
  moved_back {a} {x} p h l = rw (N.numbers.back_there a h, N.numbers.back_there x l) at (below_back p)

  -- ---- children

  moved_parent : (a c : ℕ) → a < length par → c < length par → eqb (up par' (σ c)) (σ a) ≡ eqb (up par c) a
  moved_parent a c h l =
      elim (dec_lt (up par c) (length par)) [
        | yes v ↦ rw (N.parents c l v) (moved_eqb N.numbers v h)
        | no v ↦ ne_eqb (up par' (σ c)) (σ a) (omega (arith, N.tops c l (omega arith), N.numbers.there a h)) ∙ sym (ne_eqb (up par c) a (omega arith))
      ]

  -- a child of the new number is the new number of a child
  pub kid_back : (a y : ℕ) → a < length par → y < length par' → up par' y ≡ σ a → (ρ y < length par) × (up par (ρ y) ≡ a) × (σ (ρ y) ≡ y)
  kid_back a y h l e =
      let k = up_back y l (rw e (moved_in N a h)) in
      (back_in N y l, moved_one N.numbers k.0 h (sym k.1 ∙ e), moved_again N y l)

  -- a sum over the children
  pub total_kids : (f : ℕ → ℕ) (a : ℕ) → a < length par → total f (kids par' (σ a)) ≡ total (λ c. f (σ c)) (kids par a)
  unfolding kids nodes
  total_kids f a h =
      let n = length par in
      total_keep f (λ i. eqb (up par' i) (σ a)) (nodes par')
      ∙ total_nodes N (λ y. only (eqb (up par' y) (σ a)) (f y))
      ∙ total_cong (λ c. only (eqb (up par' (σ c)) (σ a)) (f (σ c))) (λ c. only (eqb (up par c) a) (f (σ c))) (range 0 n)
      (λ c t. ap (λ b. only b (f (σ c))) (moved_parent a c h (omega (arith, range_has 0 n c t))))
      ∙ sym (total_keep (λ c. f (σ c)) (λ i. eqb (up par i) a) (nodes par))

  -- a test that some child passes
  pub any_kids : (p : ℕ → Bool) (a : ℕ) → a < length par → any p (kids par' (σ a)) ≡ any (λ c. p (σ c)) (kids par a)
  any_kids p a h =
      T-same (any p (kids par' (σ a))) (any (λ c. p (σ c)) (kids par a))
      (λ t.
      let k = has_any p (kids par' (σ a)) t in
      let c = has_kids par' k.1 in
      let b = kid_back a k.0 h c.0 c.1 in
      any_has (λ c. p (σ c)) (ρ k.0) (kids par a) (kids_has par b.0 b.1) (rw b.2 k.2))
      (λ t.
      let k = has_any (λ c. p (σ c)) (kids par a) t in
      let c = has_kids par k.1 in
      any_has p (σ k.0) (kids par' (σ a)) (kids_has par' (moved_in N k.0 c.0) (moved_up N k.0 a c.0 h c.1)) k.2)

  pub moved_kids : (a : ℕ) → a < length par → length (kids par' (σ a)) ≡ length (kids par a)
  moved_kids a h = sym (total_ones (kids par' (σ a))) ∙ total_kids (λ x. 1) a h ∙ total_ones (kids par a)

  pub kids_back : (y : ℕ) → y < length par' → length (kids par' y) ≡ length (kids par (ρ y))
  kids_back y h = ap (λ z. length (kids par' z)) (sym (moved_again N y h)) ∙ moved_kids (ρ y) (back_in N y h)

  pub moved_is_leaf : (a : ℕ) → a < length par → is_leaf par' (σ a) ≡ is_leaf par a
  unfolding is_leaf
  moved_is_leaf a h = rw (moved_kids a h)

  pub moved_leaf : (a : ℕ) → a < length par → Leaf par a → Leaf par' (σ a)
  moved_leaf a h e = moved_kids a h ∙ e

  pub leaf_back : (y : ℕ) → y < length par' → Leaf par' y → Leaf par (ρ y)
  leaf_back y h e = sym (kids_back y h) ∙ e

  pub moved_inner : (a : ℕ) → a < length par → Inner par a → Inner par' (σ a)
  moved_inner a h i = moved_kids a h ∙ i

  pub inner_back : (y : ℕ) → y < length par' → Inner par' y → Inner par (ρ y)
  inner_back y h i = sym (kids_back y h) ∙ i

  -- the two children are the new numbers of the two children; which is the first may change
  pub moved_two : (a : ℕ) → a < length par → Inner par a
      → ((kid par' (σ a) 0 ≡ σ (kid par a 0)) × (kid par' (σ a) 1 ≡ σ (kid par a 1))) ⊎ ((kid par' (σ a) 0 ≡ σ (kid par a 1)) × (kid par' (σ a) 1 ≡ σ (kid par a 0)))
  moved_two a h i =
      let x = kid par a 0 in
      let y = kid par a 1 in
      let k = kid_first par a i in
      let l = kid_second par a i in
      let n : x ≢ y = omega (arith, kid_order par a i) in
      two_kids par' (σ a) (σ x) (σ y) (moved_inner a h i) (moved_in N x k.0) (moved_in N y l.0) (moved_up N x a k.0 h k.1) (moved_up N y a l.0 h l.1)
      (λ e. n (moved_one N.numbers k.0 l.0 e))

  -- ---- lines and depths

  moved_climb : (k x : ℕ) → x < length par → climb par' k (σ x) ≡ map σ (climb par k x)
  unfolding climb
  moved_climb zero x h = refl
  moved_climb (suc k) x h =
      rw (climb_in par' k (σ x) (moved_in N x h), climb_in par k x h)
      (ap (λ l. σ x ∷ l)
      (elim (dec_lt (up par x) (length par)) [
        | yes u ↦ rw (N.parents x h u) (moved_climb k (up par x) u)
        | no u ↦ rw (N.tops x h (omega arith), climb_out par' k none (omega (arith, N.size)), climb_out par k (up par x) (omega arith))
      ]))

  pub moved_line : (x : ℕ) → x < length par → line par' (σ x) ≡ map σ (line par x)
  unfolding line
  moved_line x h = rw N.size (moved_climb (length par) x h)

  -- a set of nodes that is carried along counts as many above σ x as above x
  pub moved_depth : (counted counted' : ℕ → Bool) → ((y : ℕ) → y < length par → counted' (σ y) ≡ counted y)
      → (x : ℕ) → x < length par → depth par' counted' (σ x) ≡ depth par counted x
  unfolding depth total
  moved_depth counted counted' same x h =
      elim (dec_lt (up par x) (length par)) [
        | yes u ↦
            let l = line par (up par x) in
            rw (N.parents x h u, moved_line (up par x) u)
            (total_map (λ y. one (counted' y)) σ l
            ∙ total_cong (λ y. one (counted' (σ y))) (λ y. one (counted y)) l (λ y t. ap one (same y (top_node (off_line par t)))))
        | no u ↦ rw (N.tops x h (omega arith), line_out par' none (omega (arith, N.size)), line_out par (up par x) (omega arith))
      ]

-- ---- one root

abbrev pub moved_rooted : {par par' : List ℕ} {σ ρ : ℕ → ℕ} → Rooted par → Renumbered par par' σ ρ → Rooted par'
moved_rooted {par} {par'} {σ} {ρ} R N =
    reach_rooted (record {
      fits = rw N.size R.fits;
      root = σ R.root;
      root_in = moved_in N R.root R.root_in;
      root_up = rw (N.size, N.tops R.root R.root_in R.root_up) R.fits;
      reach = λ y h. rw (moved_again N y h) at (moved_below N (all_root R (ρ y) (back_in N y h)));
    })

pub moved_root : {par par' : List ℕ} {σ ρ : ℕ → ℕ} (R : Rooted par) (N : Renumbered par par' σ ρ) → (moved_rooted R N).root ≡ σ R.root
moved_root R N = refl

-- ---- taxa

module _ {par par' tax tax' : List ℕ} {σ ρ : ℕ → ℕ} (N : Renumbered par par' σ ρ) (C : CarriedTaxa par tax tax' σ) where
  pub taxon_back : (y : ℕ) → y < length par' → taxon tax' y ≡ taxon tax (ρ y)
  taxon_back y h = ap (taxon tax') (sym (moved_again N y h)) ∙ C.taxa (ρ y) (back_in N y h)

  pub taxa_back : CarriedTaxa par' tax' tax ρ
  taxa_back = record { even = C.even' ∙ sym N.size; even' = C.even ∙ sym N.size; taxa = λ y h. sym (taxon_back y h) }

-- ---- a sound tree stays sound

-- 65,535 is the only entry of a sound table that is no node
pub sound_tops : {par tax : List ℕ} → SoundTree par tax → (x : ℕ) → x < length par → length par ≤ up par x → up par x ≡ none
sound_tops {par} S x h u = elim (ℕ_discrete x S.root) [ yes e ↦ ap (up par) e ∙ S.root_up | no n ↦ absurd (omega (arith, S.others x h n)) ]

pub sound_fits : {par tax : List ℕ} → SoundTree par tax → length par ≤ none
sound_fits S = omega (arith, S.few)

pub moved_sound : {par par' tax tax' : List ℕ} {σ ρ : ℕ → ℕ} → SoundTree par tax → Renumbered par par' σ ρ → CarriedTaxa par tax tax' σ → SoundTree par' tax'
moved_sound {par} {par'} {tax} {tax'} {σ} {ρ} S N C =
    let F : length par ≤ none = sound_fits S in
    record {
      some = omega (arith, N.size, S.some);
      few = omega (arith, N.size, S.few);
      even = C.even' ∙ sym N.size;
      root = σ S.root;
      root_in = moved_in N S.root S.root_in;
      root_up = N.tops S.root S.root_in (rw S.root_up F);
      others = λ y h n.
          let u = S.others (ρ y) (back_in N y h) (λ e. n (sym (moved_again N y h) ∙ ap σ e)) in
          rw (sym (moved_again N y h), N.parents (ρ y) (back_in N y h) u) (moved_in N (up par (ρ y)) u);
      reach = λ y h. below_above (rw (moved_again N y h) at (moved_below N (below_root S (ρ y) (back_in N y h))));
      two = λ y h. rw (kids_back N F y h) (S.two (ρ y) (back_in N y h));
      leaf_tax = λ y h e. rw (taxon_back N C y h) (S.leaf_tax (ρ y) (back_in N y h) (leaf_back N F y h e));
      inner_tax = λ y h e. taxon_back N C y h ∙ S.inner_tax (ρ y) (back_in N y h) (inner_back N F y h e);
    }

-- the parents table of a tree under other numbers is the parents table of a tree: its taxa are the old ones, written out
pub renumbered_treelike : {par par' : List ℕ} {σ ρ : ℕ → ℕ} → Treelike par → Renumbered par par' σ ρ → Treelike par'
renumbered_treelike {par} {σ = σ} {ρ} T N =
    let n = length par in
    let f : ℕ → ℕ = λ y. taxon T.0 (ρ y) in (
      map f (range 0 n),
      moved_sound T.1 N (record {
        even = T.1.even;
        even' = length_range f 0 n;
        taxa = λ x h. get_or_range f 0 n (σ x) (N.numbers.there x h) ∙ rw (zero-add (σ x), N.numbers.back_there x h);
      }),
    )

pub treelike_back : {par par' : List ℕ} {σ ρ : ℕ → ℕ} → Treelike par → Renumbered par par' σ ρ → Renumbered par' par ρ σ
treelike_back T N = renumbered_back N (sound_fits T.1) (sound_tops T.1)

pub moved_species : {sp sp' st st' : List ℕ} {σ ρ : ℕ → ℕ} → SoundSpecies sp st → Renumbered sp sp' σ ρ → CarriedTaxa sp st st' σ → SoundSpecies sp' st'
moved_species {sp} {sp'} {st} {st'} {σ} {ρ} S N C =
    let F = sound_fits S.tree in
    record {
      tree = moved_sound S.tree N C;
      once = λ i j h l e f t.
          sym (moved_again N i h)
          ∙ ap σ (S.once (ρ i) (ρ j) (back_in N i h) (back_in N j l) (leaf_back N F i h e) (leaf_back N F j l f) (sym (taxon_back N C i h) ∙ t ∙ taxon_back N C j l))
          ∙ moved_again N j l;
    }

-- ---- both trees

module _ {w w' : Pair} {σs ρs σg ρg : ℕ → ℕ} (S : Sound w) (N : RenumberedPair w w' σs ρs σg ρg) where
  abbrev Fs : length w.sp ≤ none
  Fs = sound_fits S.species.tree

  abbrev Fg : length w.gp ≤ none
  Fg = sound_fits S.genes

  -- a species leaf that carries the taxon of gene leaf x: its new number carries the taxon of σg x
  moved_carrier : (x s : ℕ) → x < length w.gp → s < length w.sp → Leaf w.sp s → taxon w.st s ≡ taxon w.gt x
      → (σs s < length w'.sp) × Leaf w'.sp (σs s) × (taxon w'.st (σs s) ≡ taxon w'.gt (σg x))
  moved_carrier x s h l e t =
      (moved_in N.species s l, moved_leaf N.species Fs s l e, N.species_taxa.taxa s l ∙ t ∙ sym (N.gene_taxa.taxa x h))

  pub renumbered_known : Known w'
  renumbered_known y h e =
      let x = ρg y in
      let m = back_in N.genes y h in
      let k = S.known x m (leaf_back N.genes Fg y h e) in
      let c = moved_carrier x k.0 m k.1 k.2 k.3 in
      (σs k.0, c.0, c.1, c.2 ∙ ap (taxon w'.gt) (moved_again N.genes y h))

  -- trees that are sound are sound under other numbers
  pub renumbered_sound : Sound w'
  renumbered_sound =
      record {
        species = moved_species S.species N.species N.species_taxa;
        genes = moved_sound S.genes N.genes N.gene_taxa;
        known = renumbered_known;
      }

  pub moved_home : (x : ℕ) → x < length w.gp → Leaf w.gp x → home w' (σg x) ≡ σs (home w x)
  moved_home x h e =
      let k = home_is S x h e in
      let c = moved_carrier x (home w x) h k.0 k.1 k.2 in
      sym (home_one renumbered_sound (σg x) (σs (home w x)) (moved_in N.genes x h) (moved_leaf N.genes Fg x h e) c.0 c.1 c.2)

  -- and back again
  pub pair_back : RenumberedPair w' w ρs σs ρg σg
  pair_back =
      record {
        species = renumbered_back N.species Fs (sound_tops S.species.tree);
        species_taxa = taxa_back N.species N.species_taxa;
        genes = renumbered_back N.genes Fg (sound_tops S.genes);
        gene_taxa = taxa_back N.genes N.gene_taxa;
      }
