-- The turns of the climbs to the lowest common ancestor. Assumes nothing.
use Prim.Native.Nat.{ℕ, ◌+◌, ◌≤◌, ◌<◌}
use native.Mathlib.Omega.{arith}
use mathlib.Core.Path.{◌≡◌, sym}
use mathlib.Core.Logic.{inl, inr, ◌≢◌}
use mathlib.Core.List.{List}
use lib.ListN.{length, get_or}
use Rattle.trees.specs.Trees.{Below, here, step, Meet}
use Rattle.trees.specs.First.{ParentsFirst}
use Rattle.trees.specs.Sound.{SoundTree}
use Rattle.trees.proofs.Lines.{up_at, trans, top_node}
use Rattle.trees.proofs.First.{first_over}
use Rattle.trees.proofs.Meets.{meet_up, meet_lift, meet_both}
use Rattle.trees.proofs.Sound.{rooted}
use Rattle.trees.proofs.Depths.{depth_next, depth_root, depth_under, level_inner}
use Rattle.meets.specs.Climbing.{deep, Gone}
use Rattle.meets.specs.declared.Climb.{Climb}

-- ---- with parents first: the node with the higher number is not above the other, so it may go up

pub record Turn (par : List ℕ) (x y : ℕ) : Type 0 where
  pub falls : get_or par x 0 < x
  pub meets : (m : ℕ) → Meet par (get_or par x 0) y m → Meet par x y m

pub turn : {par tax : List ℕ} → SoundTree par tax → ParentsFirst par → (x y : ℕ) → x < length par → y < x → Turn par x y
turn {par} S F x y h l =
    let e = up_at par x h in
    record {
      falls = rw e at (F.order x (omega arith) h);
      meets = λ m M. meet_up x h (λ q. omega (arith, first_over F S.few q)) (rw e M);
    }

-- ---- in any order: x lies k steps above s

pub record Risen (par : List ℕ) (s x k : ℕ) : Type 0 where
  pub over : Below par x s
  pub gone : deep par x + k ≡ deep par s

pub risen_start : {par : List ℕ} (s : ℕ) → s < length par → Risen par s s 0
risen_start s h = record { over = here h; gone = omega arith }

pub gone_all : {par : List ℕ} {s : ℕ} (r : Climb) (k : ℕ) → r.steps ≡ k → Risen par s r.node.0 r.steps → Gone par s k r
gone_all r k e R = record { over = R.over; gone = R.gone; few = omega arith; end = inl e }

module _ {par tax : List ℕ} (S : SoundTree par tax) where
  pub risen_turn : {s : ℕ} (x k : ℕ) → get_or par x 0 < length par → Risen par s x k → Risen par s (get_or par x 0) (k + 1)
  risen_turn x k u R =
      let h = top_node R.over in
      record { over = trans R.over (step h (rw (up_at par x h) (here u))); gone = omega (arith, R.gone, depth_next S x h u) }

  pub gone_root : {s : ℕ} (r : Climb) (k : ℕ) → length par ≤ get_or par r.node.0 0 → r.steps ≤ k → Risen par s r.node.0 r.steps → Gone par s k r
  gone_root r k u l R = record { over = R.over; gone = R.gone; few = l; end = inr (depth_root S r.node.0 (top_node R.over) u) }

  -- as many steps as there are nodes lead to the root
  pub gone_deep : (s k : ℕ) (r : Climb) → s < length par → length par ≤ k → Gone par s k r → r.steps ≡ deep par s
  gone_deep s k r h l G = elim G.end [ inl e ↦ absurd (omega (arith, G.gone, depth_under S s h)) | inr e ↦ omega (arith, G.gone) ]

  -- a node that is deeper by k goes up by k, and is then as deep as the other
  pub gone_level : {a k : ℕ} (b : ℕ) (r : Climb) → deep par a ≡ deep par b + k → Gone par a k r → deep par r.node.0 ≡ deep par b
  gone_level b r e G = elim G.end [ inl z ↦ omega (arith, G.gone) | inr z ↦ omega (arith, G.gone, G.few) ]

  pub gone_meet : {a b k m : ℕ} (r : Climb) → deep par a ≡ deep par b + k → Gone par a k r → Meet par r.node.0 b m → Meet par a b m
  gone_meet {b = b} r e G M = meet_lift (rooted S).ground G.over (omega (arith, gone_level b r e G)) M

-- ---- in any order: both go up

pub record Level (par : List ℕ) (x y : ℕ) : Type 0 where
  pub left_in : x < length par
  pub right_in : y < length par
  pub same : deep par x ≡ deep par y

module _ {par tax : List ℕ} (S : SoundTree par tax) where
  pub level_in : {x y : ℕ} → x ≢ y → Level par x y → (get_or par x 0 < length par) × (get_or par y 0 < length par)
  level_in {x} {y} n L = (level_inner S x y L.left_in L.right_in n L.same, level_inner S y x L.right_in L.left_in (λ e. n (sym e)) (sym L.same))

  pub level_falls : {x y : ℕ} → x ≢ y → Level par x y → deep par (get_or par x 0) < deep par x
  level_falls {x} n L = omega (arith, depth_next S x L.left_in (level_in n L).0)

  pub level_turn : {x y : ℕ} → x ≢ y → Level par x y → Level par (get_or par x 0) (get_or par y 0)
  level_turn {x} {y} n L =
      let k = level_in n L in
      record { left_in = k.0; right_in = k.1; same = omega (arith, L.same, depth_next S x L.left_in k.0, depth_next S y L.right_in k.1) }

  pub level_meet : {x y m : ℕ} → x ≢ y → Level par x y → Meet par (get_or par x 0) (get_or par y 0) m → Meet par x y m
  level_meet {x} {y} n L M = meet_both (rooted S).ground L.left_in L.right_in n L.same (rw (up_at par x L.left_in, up_at par y L.right_in) M)
