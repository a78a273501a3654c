-- Sound tables are trees, in any numbering. Assumes nothing.
use Prim.Native.Nat.{ℕ, ◌≤◌, ◌<◌}
use native.Mathlib.Omega.{arith}
use mathlib.Core.Path.{◌≡◌, sym, ◌∙◌}
use mathlib.Core.Logic.{◌⊎◌, ◌↔◌}
use mathlib.Core.Bool.{Bool, false, ◌&&◌}
use mathlib.Core.List.{List}
use lib.ListN.{length}
use lib.Dec.{T, eqb, eqb→eq, eqb_refl}
use Rattle.trees.specs.Trees.{none, Below, nodes, kids, Leaf, Inner, is_leaf}
use Rattle.trees.specs.Tables.{taxon, Pair, carrier, home}
use Rattle.trees.specs.Sound.{SoundTree, Sound}
use Rattle.trees.proofs.Bools.{and_both, and_left, and_right}
use Rattle.trees.proofs.Lists.{first_has}
use Rattle.trees.proofs.Kids.{Rooted, has_node, node_has}
use Rattle.trees.proofs.Reach.{above_below, reach_rooted}

-- every node is below the root
pub below_root : {par tax : List ℕ} (S : SoundTree par tax) (x : ℕ) → x < length par → Below par S.root x
below_root {par} S x h = above_below par (omega (arith, S.few)) (S.reach x h).0 h S.root_in (S.reach x h).1

pub rooted : {par tax : List ℕ} → SoundTree par tax → Rooted par
rooted {par} S =
    let n : length par ≤ 2047 = S.few in
    reach_rooted (record { fits = omega arith; root = S.root; root_in = S.root_in; root_up = omega (arith, S.root_up); reach = below_root S })

-- what two sound tables give, whatever the numbering
pub record Trees (w : Pair) : Type 0 where
  pub s : Rooted w.sp
  pub g : Rooted w.gp
  pub s_two : (x : ℕ) → x < length w.sp → Leaf w.sp x ⊎ Inner w.sp x
  pub g_two : (x : ℕ) → x < length w.gp → Leaf w.gp x ⊎ Inner w.gp x
  pub homes : (x : ℕ) → x < length w.gp → Leaf w.gp x → home w x < length w.sp

pub leaf_is : (par : List ℕ) (x : ℕ) → T (is_leaf par x) → Leaf par x
unfolding is_leaf
leaf_is par x t = eqb→eq (length (kids par x)) 0 t

pub is_leaf_lem : (par : List ℕ) (x : ℕ) → Leaf par x → T (is_leaf par x)
unfolding is_leaf
is_leaf_lem par x e = rw e tt

pub not_leaf : (par : List ℕ) (x : ℕ) → Inner par x → is_leaf par x ≡ false
unfolding is_leaf
not_leaf par x i = rw i

module _ {w : Pair} (S : Sound w) where
  -- the home of a gene leaf is the species leaf that carries its taxon
  pub home_is : (x : ℕ) → x < length w.gp → Leaf w.gp x → (home w x < length w.sp) × Leaf w.sp (home w x) × (taxon w.st (home w x) ≡ taxon w.gt x)
  unfolding home carrier
  home_is x h e =
      let k = S.known x h e in
      let t = taxon w.gt x in
      let p : ℕ → Bool = λ s. is_leaf w.sp s && eqb (taxon w.st s) t in
      let c = home w x in
      let f = first_has p k.0 (nodes w.sp) none (has_node w.sp k.1)
      (and_both (is_leaf w.sp k.0) (eqb (taxon w.st k.0) t) (is_leaf_lem w.sp k.0 k.2) (rw k.3 (eqb_refl t))) in (
        node_has w.sp f.1,
        leaf_is w.sp c (and_left (is_leaf w.sp c) (eqb (taxon w.st c) t) f.0),
        eqb→eq (taxon w.st c) t (and_right (is_leaf w.sp c) (eqb (taxon w.st c) t) f.0),
      )

  -- and the only one
  pub home_one : (x s : ℕ) → x < length w.gp → Leaf w.gp x → s < length w.sp → Leaf w.sp s → taxon w.st s ≡ taxon w.gt x → s ≡ home w x
  home_one x s h e l f q =
      let k = home_is x h e in
      S.species.once s (home w x) l k.0 f k.1 (q ∙ sym k.2)

  -- b's subtree holds the taxon of x exactly if the home of x is at or below b
  pub taxon_held : (b x : ℕ) → x < length w.gp → Leaf w.gp x
      → ((s : ℕ) × (s < length w.sp) × Leaf w.sp s × (taxon w.st s ≡ taxon w.gt x) × Below w.sp b s) ↔ Below w.sp b (home w x)
  taxon_held b x h e =
      let k = home_is x h e in (
        (λ q. rw (home_one x q.0 h e q.1 q.2 q.3) at q.4),
        (λ u. (home w x, k.0, k.1, k.2, u)),
      )

  pub trees : Trees w
  trees =
      record {
        s = rooted S.species.tree;
        g = rooted S.genes;
        s_two = S.species.tree.two;
        g_two = S.genes.two;
        homes = λ x h e. (home_is x h e).0;
      }
