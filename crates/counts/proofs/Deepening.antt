-- The depths, as one table gets them: with parents first a node's depth is its parent's and one more; in any order each depth that is
-- noted is right, and the way up leads from one to the next. Assumes nothing.
use Prim.Native.Nat.{ℕ, ◌+◌, ◌-◌, ◌≤◌, ◌<◌}
use native.Mathlib.Omega.{arith}
use native.Mathlib.Decide.{ℕ_discrete}
use mathlib.Core.Path.{◌≡◌, refl, sym, ◌∙◌}
use mathlib.Core.Logic.{◌⊎◌, inl, inr, ◌≢◌}
use mathlib.Core.List.{List}
use lib.ListN.{length, get_or, set, replicate, length-set, length-replicate, get_or-replicate}
use lib.Seq.{get_or-set_same, get_or-set_other}
use Rattle.trees.specs.Trees.{depth}
use Rattle.trees.specs.First.{ParentsFirst}
use Rattle.trees.specs.Sound.{SoundTree, Treelike}
use Rattle.trees.proofs.Lines.{up_at, parent_in}
use Rattle.trees.proofs.Depths.{depth_next, depth_root, depth_fits}
use Rattle.histories.specs.Histories.{every_node}
use Rattle.counts.specs.Sums.{Deep}
use Rattle.counts.specs.Noting.{Noting, Noted}

-- ---- with parents first

-- the depths of the first i nodes stand
pub record Deepening (par : List ℕ) (i : ℕ) (out : List ℕ) : Type 0 where
  pub size : length out ≡ 2047
  pub at : (s : ℕ) → s < i → get_or out s 0 ≡ depth par every_node s

module _ {par tax : List ℕ} (S : SoundTree par tax) (F : ParentsFirst par) where
  pub first_parent : (i : ℕ) → 0 < i → i < length par → get_or par i 0 < i
  first_parent i a b = parent_in par i b (F.order i a b)

  pub deepening_start : (out : List ℕ) → length out ≡ 2047 → Deepening par 1 (set out 0 0)
  deepening_start out e =
      record {
        size = length-set out 0 0 ∙ e;
        at = λ s h.
            let z : s ≡ 0 = omega arith in
            rw z (get_or-set_same out 0 0 0 (omega arith) ∙ sym (depth_root S 0 S.some (omega (arith, F.top, up_at par 0 S.some, S.few))));
      }

  pub deepening_turn : (i : ℕ) (out : List ℕ) → 0 < i → i < length par → Deepening par i out → Deepening par (i + 1) (set out i (get_or out (get_or par i 0) 0 + 1))
  deepening_turn i out a b D =
      let v = get_or out (get_or par i 0) 0 + 1 in
      let few : length par ≤ 2047 = S.few in
      let size : length out ≡ 2047 = D.size in
      let u = first_parent i a b in
      record {
        size = length-set out i v ∙ D.size;
        at = λ s h. elim (ℕ_discrete s i) [
          | yes z ↦ rw (z, get_or-set_same out i v 0 (omega arith), D.at (get_or par i 0) u) (sym (depth_next S i b (omega arith)))
          | no z ↦ get_or-set_other out i s v 0 z ∙ D.at s (omega arith)
        ];
      }

  -- a depth read while the table is filled is small
  pub deep_small : (i : ℕ) (out : List ℕ) → 0 < i → i < length par → Deepening par i out → get_or out (get_or par i 0) 0 ≤ 1023
  deep_small i out a b D = let u = first_parent i a b in rw (D.at (get_or par i 0) u) (depth_fits S (get_or par i 0) (omega arith))

  pub deepening_end : (i : ℕ) (out : List ℕ) → i ≡ length par → Deepening par i out → Deep par out
  deepening_end i out e D = record { size = D.size; few = S.few; at = λ s h. D.at s (rw e h) }

-- ---- in any order

-- all that is known on the way up from s, at x, whose depth is d
pub record Way (par : List ℕ) (s : ℕ) (old new : List ℕ) (x d : ℕ) : Type 0 where
  pub inside : x < length par
  pub deep : d ≡ depth par every_node x
  pub noting : Noting par new
  pub still : (y : ℕ) → get_or old y 0 ≢ 65535 → get_or new y 0 ≢ 65535
  pub begun : (x ≡ s) ⊎ (get_or new s 0 ≢ 65535)

module _ {par : List ℕ} where
  pub noting_start : Treelike par → {out : List ℕ} → out ≡ replicate 2047 65535 → Noting par out
  noting_start P e =
      let few : length par ≤ 2047 = P.1.few in
      record {
        tree = P;
        size = rw e (length-replicate {A = ℕ} 2047 65535);
        right = λ s h n. absurd (n (rw e (get_or-replicate {A = ℕ} 2047 s 65535 0 (omega arith))));
      }

  -- what is known is small
  pub known_small : {out : List ℕ} (s : ℕ) → Noting par out → s < length par → get_or out s 0 ≢ 65535 → get_or out s 0 ≤ 1023
  known_small s N h n = rw (N.right s h n) (depth_fits N.tree.1 s h)

  -- one depth more
  known_set : {out : List ℕ} (x d : ℕ) → Noting par out → x < length par → d ≡ depth par every_node x
      → Noting par (set out x d) × (get_or (set out x d) x 0 ≢ 65535) × ((y : ℕ) → get_or out y 0 ≢ 65535 → get_or (set out x d) y 0 ≢ 65535)
  known_set {out} x d N h e =
      let few : length par ≤ 2047 = N.tree.1.few in
      let same : get_or (set out x d) x 0 ≡ d = get_or-set_same out x d 0 (omega (arith, N.size)) in
      let fits = depth_fits N.tree.1 x h in
      let here : get_or (set out x d) x 0 ≢ 65535 = (λ z. omega (arith, same, fits)) in (
        record {
          tree = N.tree;
          size = length-set out x d ∙ N.size;
          right = λ s l n. elim (ℕ_discrete s x) [
            | yes z ↦ rw z (same ∙ e)
            | no z ↦ let o = get_or-set_other out x s d 0 z in o ∙ N.right s l (λ f. n (o ∙ f))
          ];
        },
        here,
        λ y n. elim (ℕ_discrete y x) [ yes z ↦ rw z here | no z ↦ λ f. n (sym (get_or-set_other out x y d 0 z) ∙ f) ],
      )

  pub way_start : {out : List ℕ} (s d : ℕ) → Noting par out → s < length par → d ≡ depth par every_node s → Way par s out out s d
  way_start s d N h e = record { inside = h; deep = e; noting = N; still = λ y n. n; begun = inl refl }

  module _ {s : ℕ} {old new : List ℕ} (x d : ℕ) (W : Way par s old new x d) where
    pub way_end : get_or new x 0 ≢ 65535 → Noted par s old new
    way_end n = record { noting = W.noting; now_known = elim W.begun [ inl e ↦ rw (← e) n | inr k ↦ k ]; still = W.still }

    -- the depth at x is noted
    pub way_noted : Noted par s old (set new x d)
    way_noted =
        let k = known_set x d W.noting W.inside W.deep in
        record { noting = k.0; now_known = elim W.begun [ inl e ↦ rw (← e) k.1 | inr m ↦ k.2 s m ]; still = λ y n. k.2 y (W.still y n) }

    pub way_deep : get_or par x 0 < length par → d ≡ depth par every_node (get_or par x 0) + 1
    way_deep u = W.deep ∙ depth_next W.noting.tree.1 x W.inside u

    pub way_turn : get_or par x 0 < length par → Way par s old (set new x d) (get_or par x 0) (d - 1)
    way_turn u =
        let N = way_noted in
        record { inside = u; deep = omega (arith, way_deep u); noting = N.noting; still = N.still; begun = inr N.now_known }

-- x is k steps above s
pub record Upward (par : List ℕ) (s x k : ℕ) : Type 0 where
  pub inside : x < length par
  pub gone : depth par every_node x + k ≡ depth par every_node s
  pub small : depth par every_node s ≤ 1023

module _ {par tax : List ℕ} (S : SoundTree par tax) where
  pub upward_start : (s : ℕ) → s < length par → Upward par s s 0
  upward_start s h = record { inside = h; gone = omega arith; small = depth_fits S s h }

  pub upward_turn : {s : ℕ} (x k : ℕ) → get_or par x 0 < length par → Upward par s x k → Upward par s (get_or par x 0) (k + 1)
  upward_turn x k u U = record { inside = u; gone = omega (arith, U.gone, depth_next S x U.inside u); small = U.small }

  pub upward_nearer : {s : ℕ} (x k : ℕ) → get_or par x 0 < length par → Upward par s x k → depth par every_node (get_or par x 0) < depth par every_node x
  upward_nearer x k u U = omega (arith, depth_next S x U.inside u)

  pub upward_root : {s : ℕ} (x k : ℕ) → length par ≤ get_or par x 0 → Upward par s x k → k ≡ depth par every_node s
  upward_root x k u U = omega (arith, U.gone, depth_root S x U.inside u)

-- the depths of the first i nodes are known
pub record Knowing (par : List ℕ) (i : ℕ) (out : List ℕ) : Type 0 where
  pub noting : Noting par out
  pub known : (s : ℕ) → s < i → get_or out s 0 ≢ 65535

pub knowing_start : {par out : List ℕ} → Treelike par → out ≡ replicate 2047 65535 → Knowing par 0 out
knowing_start P e = record { noting = noting_start P e; known = λ s h. absurd (omega arith) }

pub knowing_turn : {par old new : List ℕ} (i : ℕ) → Knowing par i old → Noted par i old new → Knowing par (i + 1) new
knowing_turn i K N =
    record { noting = N.noting; known = λ s h. elim (ℕ_discrete s i) [ yes z ↦ rw z N.now_known | no z ↦ N.still s (K.known s (omega arith)) ] }

pub knowing_end : {par out : List ℕ} (i : ℕ) → length par ≤ i → Knowing par i out → Deep par out
knowing_end i l K =
    record { size = K.noting.size; few = K.noting.tree.1.few; at = λ s h. K.noting.right s h (K.known s (omega arith)) }
