-- One node more is listed, whose parent is listed already or who has none. Assumes nothing.
use Prim.Native.Nat.{ℕ, ◌+◌, ◌≤◌, ◌<◌}
use native.Mathlib.Omega.{arith}
use native.Mathlib.Decide.{ℕ_discrete, dec_lt}
use mathlib.Core.Path.{◌≡◌, sym, ap, ◌∙◌}
use mathlib.Core.Logic.{◌⊎◌, inl, inr, ◌≢◌}
use mathlib.Core.Bool.{Bool, true, false, not}
use mathlib.Core.List.{List}
use lib.ListN.{length, get_or, set, length-set}
use lib.Seq.{get_or-set_same, get_or-set_other}
use lib.Dec.{eqb}
use borrow.Author.Tests.{eq-eqb, ne_eqb, lt-ltb, le-ltb}
use Rattle.trees.specs.Lists.{range, total, one, pick}
use Rattle.trees.specs.Trees.{none, up, nodes, here, step}
use Rattle.trees.proofs.Lists.{only, total_cong, total_add, total_at, total_le, total_ones}
use Rattle.roots.proofs.Ways.{reaching_below}
use Rattle.orders.specs.Listing.{Has, spot_over_lem, has_one, Listing}

-- ---- how many have a position

one_few : (b : Bool) → one b ≤ 1
unfolding one
one_few true = omega arith
one_few false = omega arith

-- fewer than all, if one has none
pub listed_few : (par spots : List ℕ) (x : ℕ) → x < length par → get_or spots x 0 ≡ none → total (has_one spots) (nodes par) < length par
unfolding nodes one
listed_few par spots x h e =
    let n = length par in
    let f = has_one spots in
    let g : ℕ → ℕ = λ y. only (eqb x y) 1 in
    let up_to : total (λ y. f y + g y) (range 0 n) ≤ total (λ y. 1) (range 0 n) =
    total_le (λ y. f y + g y) (λ y. 1) (range 0 n) (λ y t. elim (ℕ_discrete x y) [
      | yes z ↦ rw (eq-eqb x y z, ← z, e) (omega arith)
      | no z ↦ rw (ne_eqb x y z) (omega (arith, one_few (not (eqb (get_or spots y 0) none))))
    ]) in
    omega (arith, up_to, total_add f g (range 0 n), total_at (λ y. 1) x 0 n (omega arith) (omega arith), total_ones 0 n)

-- one more
pub listed_more : (par spots : List ℕ) (x c : ℕ) → x < length par → length spots ≡ length par → get_or spots x 0 ≡ none → c ≢ none
    → total (has_one (set spots x c)) (nodes par) ≡ total (has_one spots) (nodes par) + 1
unfolding nodes one
listed_more par spots x c h s e n =
    let f = has_one spots in
    let g : ℕ → ℕ = λ y. only (eqb x y) 1 in
    total_cong (has_one (set spots x c)) (λ y. f y + g y) (range 0 (length par)) (λ y t. elim (ℕ_discrete x y) [
      | yes z ↦ rw (eq-eqb x y z, ← z, get_or-set_same spots x c 0 (omega arith), e, ne_eqb c none n)
      | no z ↦ rw (ne_eqb x y z, get_or-set_other spots x y c 0 (λ q. z (sym q))) (omega arith)
    ])
    ∙ total_add f g (range 0 (length par)) ∙ ap (λ v. total f (range 0 (length par)) + v) (total_at (λ y. 1) x 0 (length par) (omega arith) (omega arith))

-- ---- the position of a parent

pub over_in : (par spots : List ℕ) (x : ℕ) → up par x < length par → spot_over_lem par spots x ≡ get_or spots (up par x) 0
unfolding spot_over_lem pick
over_in par spots x h = rw (lt-ltb (up par x) (length par) h)

pub over_out : (par spots : List ℕ) (x : ℕ) → length par ≤ up par x → spot_over_lem par spots x ≡ none
unfolding spot_over_lem pick
over_out par spots x h = rw (le-ltb (up par x) (length par) h)

-- ---- one node more

module _ {par spots copy : List ℕ} {c : ℕ} (L : Listing par c spots copy) (x : ℕ) (h : x < length par) (e : get_or spots x 0 ≡ none)
    (p : (length par ≤ up par x) ⊎ Has spots (up par x)) where
  pub list_few : c < length par
  list_few = omega (arith, L.count, listed_few par spots x h e)

  small : c < 2047
  small = omega (arith, list_few, L.entries.few)

  abbrev spots' : List ℕ
  spots' = set spots x c

  abbrev copy' : List ℕ
  copy' = set copy c (spot_over_lem par spots x)

  at_x : get_or spots' x 0 ≡ c
  at_x = get_or-set_same spots x c 0 (omega (arith, L.spots_size))

  at_other : (y : ℕ) → y ≢ x → get_or spots' y 0 ≡ get_or spots y 0
  at_other y n = get_or-set_other spots x y c 0 n

  -- a node with a position is not x
  not_x : (y : ℕ) → Has spots y → y ≢ x
  not_x y a z = a (ap (λ m. get_or spots m 0) z ∙ e)

  -- nor is its parent
  over_has : (y : ℕ) → y < length par → Has spots y → up par y < length par → Has spots (up par y)
  over_has y l a u = omega (arith, L.over y l a u, L.low y l a, small)

  stays_over : (y : ℕ) → y < length par → Has spots y → spot_over_lem par spots' y ≡ spot_over_lem par spots y
  stays_over y l a =
      elim (dec_lt (up par y) (length par)) [
        | yes u ↦ over_in par spots' y u ∙ at_other (up par y) (not_x (up par y) (over_has y l a u)) ∙ sym (over_in par spots y u)
        | no u ↦ over_out par spots' y (omega arith) ∙ sym (over_out par spots y (omega arith))
      ]

  parent_has : up par x < length par → Has spots (up par x)
  parent_has u = elim p [ inl o ↦ absurd (omega arith) | inr a ↦ a ]

  new_over : spot_over_lem par spots' x ≡ spot_over_lem par spots x
  new_over =
      elim (dec_lt (up par x) (length par)) [
        | yes u ↦ over_in par spots' x u ∙ at_other (up par x) (not_x (up par x) (parent_has u)) ∙ sym (over_in par spots x u)
        | no u ↦ over_out par spots' x (omega arith) ∙ sym (over_out par spots x (omega arith))
      ]

  -- the rest had theirs before
  before : (y : ℕ) → y ≢ x → Has spots' y → Has spots y
  before y n a z = a (at_other y n ∙ z)

  pub list_one : Listing par (c + 1) spots' copy'
  list_one =
      record {
        entries = L.entries;
        spots_size = length-set spots x c ∙ L.spots_size;
        copy_size = length-set copy c (spot_over_lem par spots x) ∙ L.copy_size;
        count = listed_more par spots x c h L.spots_size e (omega (arith, small)) ∙ ap (λ v. v + 1) L.count;
        low = λ y l a. elim (ℕ_discrete y x) [ yes z ↦ rw z (omega (arith, at_x)) | no n ↦ omega (arith, at_other y n, L.low y l (before y n a)) ];
        each = λ k l. elim (ℕ_discrete k c) [
          | yes z ↦ (x, h, at_x ∙ sym z)
          | no n ↦ let w = L.each k (omega arith) in (w.0, w.1, at_other w.0 (not_x w.0 (omega (arith, w.2, small))) ∙ w.2)
        ];
        one = λ y z l m a q. elim (ℕ_discrete y x) [
          | yes d ↦ elim (ℕ_discrete z x) [
            | yes f ↦ d ∙ sym f
            | no n ↦ absurd (let v : get_or spots z 0 ≡ c = sym (at_other z n) ∙ sym q ∙ ap (λ m. get_or spots' m 0) d ∙ at_x in omega (arith, v, small, L.low z m (omega (arith, v, small))))
          ]
          | no n ↦ elim (ℕ_discrete z x) [
            | yes f ↦ absurd (let v : get_or spots y 0 ≡ c = sym (at_other y n) ∙ q ∙ ap (λ m. get_or spots' m 0) f ∙ at_x in omega (arith, v, L.low y l (before y n a)))
            | no k ↦ L.one y z l m (before y n a) (sym (at_other y n) ∙ q ∙ at_other z k)
          ]
        ];
        over = λ y l a u. elim (ℕ_discrete y x) [
          | yes z ↦
              let v : up par x < length par = rw z at u in
              let b = parent_has v in
              rw z (omega (arith, at_x, at_other (up par x) (not_x (up par x) b), L.low (up par x) v b))
          | no n ↦ let b = before y n a in omega (arith, at_other y n, at_other (up par y) (not_x (up par y) (over_has y l b u)), L.over y l b u)
        ];
        copied = λ y l a. elim (ℕ_discrete y x) [
          | yes z ↦ rw (z, at_x, get_or-set_same copy c (spot_over_lem par spots x) 0 (omega (arith, list_few, L.copy_size))) (sym new_over)
          | no n ↦
              let b = before y n a in
              rw (at_other y n, get_or-set_other copy c (get_or spots y 0) (spot_over_lem par spots x) 0 (omega (arith, L.low y l b))) (L.copied y l b ∙ sym (stays_over y l b))
        ];
        reach = λ y l a. elim (ℕ_discrete y x) [
          | yes z ↦ rw z (elim (dec_lt (up par x) (length par)) [
            | yes u ↦ reaching_below (step h (here u)) (L.reach (up par x) u (parent_has u))
            | no u ↦ record { root = x; top = L.entries.entry x h (omega arith); below = here h }
          ])
          | no n ↦ L.reach y l (before y n a)
        ];
      }

  -- what had a position has it still, and x has one
  pub list_stays : (y : ℕ) → Has spots y → Has spots' y
  list_stays y a z = a (sym (at_other y (not_x y a)) ∙ z)

  pub list_has : Has spots' x
  list_has z = omega (arith, small, sym at_x ∙ z)
