-- The place of a gene node is the lowest species node that holds every taxon below it, and where its children's places meet. Assumes
-- nothing.
use Prim.Native.Nat.{ℕ, ◌<◌}
use native.Mathlib.Omega.{arith}
use mathlib.Core.Path.{◌≡◌}
use mathlib.Core.Logic.{inl, inr, ◌↔◌}
use mathlib.Core.Bool.{Bool}
use lib.ListN.{length, get_or}
use lib.Dec.{T, eqb, eqb→eq, eqb_refl}
use Rattle.trees.specs.Lists.{any}
use Rattle.trees.specs.Trees.{none, up, Below, here, step, kid, Leaf, Inner, Meet}
use Rattle.trees.specs.Tables.{taxon, Pair, home}
use Rattle.trees.specs.Sound.{Sound}
use Rattle.trees.proofs.Lists.{all_has, has_all, any_has, has_any, has_get_or}
use Rattle.trees.proofs.Lines.{trans, antisym, top_node, low_node}
use Rattle.trees.proofs.Kids.{kid_first, kid_second, leaf_alone, via_two}
use Rattle.trees.proofs.Meets.{meet_one}
use Rattle.trees.proofs.Roots.{all_root, first_line}
use Rattle.trees.proofs.Sound.{trees, home_is, taxon_held}
use Rattle.histories.specs.Places.{leaves, Holds, IsPlace, holds, place}
use Rattle.histories.proofs.Leaves.{has_leaves, leaves_has, some_leaf}

module _ {w : Pair} (S : Sound w) where
  -- b holds every taxon below g exactly if every home of a leaf below g is at or below b
  pub holds_homes : (g b : ℕ) → Holds w g b ↔ ((x : ℕ) → Leaf w.gp x → Below w.gp g x → Below w.sp b (home w x))
  holds_homes g b = (
    (λ f x e u. let k = f x e u in (taxon_held S b x (low_node u) e).0 (k.0, low_node k.2, k.1, k.3, k.2)),
    (λ f x e u. let k = home_is S x (low_node u) e in (home w x, k.1, f x e u, k.2)),
  )

  -- the test says what it means
  pub holds_test : (g b : ℕ) → T (holds w g b) ↔ Holds w g b
  unfolding holds
  holds_test g b =
      let same : ℕ → ℕ → Bool = λ x s. eqb (taxon w.st s) (taxon w.gt x) in
      let found : ℕ → Bool = λ x. any (same x) (leaves w.sp b) in (
        (λ t x e u.
            let k = has_any (same x) (leaves w.sp b) (all_has found (leaves w.gp g) t x (has_leaves (trees S).g.ground g x e u)) in
            let l = leaves_has w.sp b k.0 k.1 in
            (k.0, l.0, l.1, eqb→eq (taxon w.st k.0) (taxon w.gt x) k.2)),
        (λ f. has_all found (leaves w.gp g) (λ x t.
            let l = leaves_has w.gp g x t in
            let k = f x l.0 l.1 in
            any_has (same x) k.0 (leaves w.sp b) (has_leaves (trees S).s.ground b k.0 k.1 k.2) (rw k.3 (eqb_refl (taxon w.gt x))))),
      )

  -- The root holds every taxon, so going up from one home below g a node that holds them all is met; every node that does is on that
  -- line, so the first of them is below the others.
  pub place_is : (g : ℕ) → g < length w.gp → IsPlace w g (place w g)
  unfolding place
  place_is g h =
      let r = some_leaf (trees S).g.ground (trees S).g_two g h in
      let x : ℕ = get_or (leaves w.gp g) 0 none in
      let k = leaves_has w.gp g x (has_get_or r.0 none (leaves w.gp g) (has_leaves (trees S).g.ground g r.0 r.1 r.2)) in
      let found : (b : ℕ) → Holds w g b → T (holds w g (place w g)) × Below w.sp b (place w g) =
      (λ b f. first_line (trees S).s (holds w g) ((holds_homes g b).0 f x k.0 k.1) ((holds_test g b).1 f)) in
      let root : ℕ = (trees S).s.root in
      let all_under : Holds w g root = (holds_homes g root).1 (λ y e u. all_root (trees S).s (home w y) ((trees S).homes y (low_node u) e)) in
      record { all_in = (holds_test g (place w g)).0 (found root all_under).0; under = λ b f. (found b f).1 }

  pub place_one : (g a : ℕ) → g < length w.gp → IsPlace w g a → a ≡ place w g
  place_one g a h P =
      let M = place_is g h in
      antisym (trees S).s.ground (P.under (place w g) M.all_in) (M.under a P.all_in)

  -- the place by homes: above every home of a leaf below g, and below every node that is
  pub place_over : (g x : ℕ) → Leaf w.gp x → Below w.gp g x → Below w.sp (place w g) (home w x)
  place_over g x e u = (holds_homes g (place w g)).0 (place_is g (top_node u)).all_in x e u

  pub place_under : (g b : ℕ) → g < length w.gp → ((x : ℕ) → Leaf w.gp x → Below w.gp g x → Below w.sp b (home w x)) → Below w.sp b (place w g)
  place_under g b h f = (place_is g h).under b ((holds_homes g b).1 f)

  pub place_node : (g : ℕ) → g < length w.gp → place w g < length w.sp
  place_node g h = let x = some_leaf (trees S).g.ground (trees S).g_two g h in top_node (place_over g x.0 x.1 x.2)

  -- "a gene leaf sits at the species leaf of its taxon"
  pub place_leaf : (g : ℕ) → g < length w.gp → Leaf w.gp g → place w g ≡ home w g
  place_leaf g h e =
      antisym (trees S).s.ground
      (place_under g (home w g) h (λ x z b. rw (leaf_alone e b) (here ((trees S).homes g h e))))
      (place_over g g e (here h))

  -- further down the gene tree, at or further down the species tree
  pub place_below : (g c : ℕ) → Below w.gp g c → Below w.sp (place w g) (place w c)
  place_below g c u = place_under c (place w g) (low_node u) (λ x e b. place_over g x e (trans b u))

  pub place_down : (c : ℕ) → c < length w.gp → up w.gp c < length w.gp → Below w.sp (place w (up w.gp c)) (place w c)
  place_down c h u = place_below (up w.gp c) c (step h (here u))

  pub place_first : (g : ℕ) → g < length w.gp → Inner w.gp g → Below w.sp (place w g) (place w (kid w.gp g 0))
  place_first g h i = let k = kid_first w.gp g i in place_below g (kid w.gp g 0) (step k.0 (rw k.1 (here h)))

  pub place_second : (g : ℕ) → g < length w.gp → Inner w.gp g → Below w.sp (place w g) (place w (kid w.gp g 1))
  place_second g h i = let k = kid_second w.gp g i in place_below g (kid w.gp g 1) (step k.0 (rw k.1 (here h)))

  -- the place of an inner node is where its children's places meet: a leaf below it is below one of the children
  pub place_meets : (g : ℕ) → g < length w.gp → Inner w.gp g → Meet w.sp (place w (kid w.gp g 0)) (place w (kid w.gp g 1)) (place w g)
  place_meets g h i =
      record {
        left = place_first g h i;
        right = place_second g h i;
        over = λ b p q. place_under g b h (λ x e u. elim (via_two i u) [
          | inl z ↦ absurd (omega (arith, rw z at e, i))
          | inr r ↦ elim r [ inl v ↦ trans (place_over (kid w.gp g 0) x e v) p | inr v ↦ trans (place_over (kid w.gp g 1) x e v) q ]
        ]);
      }

  pub place_meet : (g m : ℕ) → g < length w.gp → Inner w.gp g → Meet w.sp (place w (kid w.gp g 0)) (place w (kid w.gp g 1)) m → place w g ≡ m
  place_meet g m h i M = meet_one (trees S).s.ground (place_meets g h i) M
