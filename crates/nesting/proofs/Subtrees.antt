-- A position inside a node's run is that of a node at or below it, and the node's turn tells on which side. Assumes nothing.
use Prim.Native.Nat.{ℕ, ◌+◌, ◌≤◌, ◌<◌}
use native.Mathlib.Omega.{arith}
use native.Mathlib.Decide.{ℕ_discrete, dec_lt}
use mathlib.Core.Path.{◌≡◌, refl, sym, ap, ◌∙◌}
use mathlib.Core.Logic.{◌⊎◌, inl, inr, ◌≢◌}
use mathlib.Core.List.{List}
use lib.ListN.{length, get_or}
use Rattle.trees.specs.Trees.{up, Below, here, step, kids, Inner}
use Rattle.trees.specs.Sound.{SoundTree}
use Rattle.trees.proofs.Lines.{top_node, low_node, from_kids}
use Rattle.trees.proofs.Kids.{via_kid, none_has, kids_has, either_kid}
use Rattle.trees.proofs.Roots.{all_root}
use Rattle.trees.proofs.Sound.{rooted}
use Rattle.histories.specs.Legal.{Apart}
use Rattle.nesting.specs.Runs.{Laid}

module _ {par tax : List ℕ} (S : SoundTree par tax) {start run turn : List ℕ} (L : Laid par start run turn) where
  -- a node with a parent is not the root
  not_root : (x g : ℕ) → up par x ≡ g → g < length par → 0 < x
  not_root x g e h = elim (ℕ_discrete x 0) [ yes z ↦ absurd (omega (arith, L.first.top, S.few, ap (up par) z)) | no n ↦ omega arith ]

  -- further down, a run inside the run
  run_below : {a x : ℕ} → Below par a x → (get_or start a 0 ≤ get_or start x 0) × (get_or start x 0 + get_or run x 0 ≤ get_or start a 0 + get_or run a 0)
  run_below (here l) = (omega arith, omega arith)
  run_below {x = x} (step l p) =
      let k = run_below p in
      let z = not_root x (up par x) refl (low_node p) in (omega (arith, k.0, L.after x z l), omega (arith, k.1, L.inside x z l))

  -- the first position of a child's run comes after the parent's own
  after_parent : (g c x : ℕ) → g < length par → c < length par → up par c ≡ g → Below par c x → get_or start g 0 < get_or start x 0
  after_parent g c x h l e B = omega (arith, ap (λ m. get_or start m 0) e, L.after c (not_root c g e h) l, run_below B)

  -- two children's runs have nothing in common
  runs_apart : (g j k : ℕ) → g < length par → j < length par → k < length par → up par j ≡ g → up par k ≡ g → j ≢ k
      → (get_or start j 0 + get_or run j 0 ≤ get_or start k 0) ⊎ (get_or start k 0 + get_or run k 0 ≤ get_or start j 0)
  runs_apart g j k h lj lk ej ek n =
      elim (dec_lt j k) [
        | yes y ↦ inr (L.apart j k (not_root j g ej h) y lk (ek ∙ sym ej))
        | no y ↦ inl (L.apart k j (not_root k g ek h) (omega arith) lj (ej ∙ sym ek))
      ]

  -- Go down from the root as long as both nodes are below: where they part, their runs lie in those of two children.
  pub inside_below : (a x : ℕ) → a < length par → x < length par → get_or start a 0 ≤ get_or start x 0 → get_or start x 0 < get_or start a 0 + get_or run a 0 → Below par a x
  inside_below a x la lx p q =
      from_kids (rooted S).ground (λ g. Below par g a → Below par g x → Below par a x)
      (λ g h ih A X. elim (via_kid A) [
        | inl e ↦ rw e X
        | inr j ↦ elim (via_kid X) [
          | inl e ↦ absurd (omega (arith, ap (λ m. get_or start m 0) e, after_parent g j.0 a h j.1 j.2 j.3))
          | inr k ↦ elim (ℕ_discrete k.0 j.0) [
            | yes e ↦ ih j.0 j.1 j.2 j.3 (rw e at k.3)
            | no n ↦
                let Ra = run_below j.3 in
                let Rx = run_below k.3 in
                elim (runs_apart g k.0 j.0 h k.1 j.1 k.2 j.2 n) [
                  | inl y ↦ absurd (omega (arith, Ra.0, Rx.1, L.some x lx))
                  | inr y ↦ absurd (omega (arith, Ra.1, Rx.0))
                ]
          ]
        ]
      ])
      (rooted S).root (rooted S).root_in (all_root (rooted S) a la) (all_root (rooted S) x lx)

  -- properly below, and so below a child
  below_kid : (a x : ℕ) → Below par a x → get_or start a 0 < get_or start x 0 → (c : ℕ) × (c < length par) × (up par c ≡ a) × Below par c x
  below_kid a x B p = elim (via_kid B) [ inl e ↦ absurd (omega (arith, ap (λ m. get_or start m 0) e)) | inr k ↦ k ]

  -- below two different children
  kids_apart : (a j k x y : ℕ) → a < length par → j < length par → k < length par → up par j ≡ a → up par k ≡ a → j ≢ k → Below par j x → Below par k y → Apart par a x y
  kids_apart a j k x y l lj lk ej ek n X Y =
      let i : Inner par a = elim (S.two a l) [ inl z ↦ absurd (none_has (kids par a) j z (kids_has par lj ej)) | inr i ↦ i ] in
      elim (either_kid par a j i lj ej) [
        | inl e ↦ elim (either_kid par a k i lk ek) [ inl f ↦ absurd (n (e ∙ sym f)) | inr f ↦ inl (rw e at X, rw f at Y) ]
        | inr e ↦ elim (either_kid par a k i lk ek) [ inl f ↦ inr (rw e at X, rw f at Y) | inr f ↦ absurd (n (e ∙ sym f)) ]
      ]

  -- two nodes below a, before and after its turn, lie on different sides: no child's run has positions before the turn and after it
  pub turn_apart : (a x y : ℕ) → Below par a x → Below par a y
      → get_or start a 0 < get_or start x 0 → get_or start x 0 < get_or start a 0 + get_or turn a 0 → get_or start a 0 + get_or turn a 0 ≤ get_or start y 0
      → Apart par a x y
  turn_apart a x y X Y p q r =
      let l : a < length par = top_node X in
      let j = below_kid a x X p in
      let k = below_kid a y Y (omega arith) in
      kids_apart a j.0 k.0 x y l j.1 k.1 j.2 k.2
      (λ e. elim (L.turned j.0 (not_root j.0 a j.2 l) j.1) [
        | inl t ↦ omega (arith, rw j.2 at t, (run_below j.3).0)
        | inr t ↦ omega (arith, rw j.2 at t, (run_below k.3).1, ap (λ m. get_or start m 0) e, ap (λ m. get_or run m 0) e, L.some y (low_node Y))
      ])
      j.3 k.3
