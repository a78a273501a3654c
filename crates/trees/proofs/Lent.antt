-- When a table is what a call should leave. Assumes nothing.
use Prim.Native.Nat.{ℕ, ◌+◌, ◌≤◌, ◌<◌}
use native.Mathlib.Omega.{arith}
use native.Mathlib.Decide.{ℕ_discrete}
use mathlib.Core.Path.{◌≡◌, sym, ap₂, ◌∙◌}
use mathlib.Core.List.{List, ◌++◌}
use lib.ListN.{length, get_or, set, take, drop, replicate, take-append-drop, length-append, length-drop, length-replicate, get_or-replicate, get_or-append}
use lib.Seq.{get_or-set_same, get_or-set_other, length-take-le, get_or-take, ext_get_or, drop-append_seam, take-append_seam}
use Rattle.trees.specs.Lent.{replaced, zeroed}

-- the first entries are new, and those behind them are the old ones
pub replaced_is : (new old p : List ℕ) → length new ≤ length p → ((g : ℕ) → g < length new → get_or p g 0 ≡ get_or new g 0)
    → drop (length new) p ≡ drop (length new) old → p ≡ replaced new old
unfolding replaced
replaced_is new old p h f d =
    let n = length new in
    let t : take n p ≡ new =
    ext_get_or 0 (take n p) new (length-take-le n p h) (λ i l. let b : i < n = omega (arith, length-take-le n p h) in get_or-take n p i 0 b ∙ f i b) in
    sym (take-append-drop n p) ∙ ap₂ ◌++◌ t d

pub length_replaced : (new old : List ℕ) → length new ≤ length old → length (replaced new old) ≡ length old
unfolding replaced
length_replaced new old h = length-append new (drop (length new) old) ∙ omega (arith, length-drop (length new) old)

-- what stands in it
pub get_or_replaced : (new old : List ℕ) (g : ℕ) → g < length new → get_or (replaced new old) g 0 ≡ get_or new g 0
unfolding replaced
get_or_replaced new old g h = get_or-append new (drop (length new) old) 0 g h

pub take_replaced : (new old : List ℕ) → take (length new) (replaced new old) ≡ new
unfolding replaced
take_replaced new old = take-append_seam new (drop (length new) old)

pub drop_replaced : (new old : List ℕ) → drop (length new) (replaced new old) ≡ drop (length new) old
unfolding replaced
drop_replaced new old = drop-append_seam new (drop (length new) old)

pub zeroed_is : (q : ℕ) (old p : List ℕ) → q ≤ length p → ((g : ℕ) → g < q → get_or p g 0 ≡ 0) → drop q p ≡ drop q old → p ≡ zeroed q old
unfolding zeroed
zeroed_is q old p h f d =
    let e : length {A = ℕ} (replicate q 0) ≡ q = length-replicate {A = ℕ} q 0 in
    replaced_is (replicate q 0) old p (rw e h) (λ g l. let b : g < q = omega arith in f g b ∙ sym (get_or-replicate {A = ℕ} q g 0 0 b)) (rw e d)

-- one entry more is zero
pub blank_more : (c : List ℕ) (i : ℕ) → i < length c → ((k : ℕ) → k < i → get_or c k 0 ≡ 0) → (k : ℕ) → k < i + 1 → get_or (set c i 0) k 0 ≡ 0
blank_more c i h f k l = elim (ℕ_discrete k i) [ yes e ↦ rw e (get_or-set_same c i 0 0 h) | no e ↦ get_or-set_other c i k 0 0 e ∙ f k (omega arith) ]
