-- Two bits of an entry: one more at one place leaves the other places as they are. Four places, so each case is arithmetic. Assumes
-- nothing.
use Prim.Native.Nat.{ℕ, zero, suc, ◌+◌, ◌*◌, ◌/◌, ◌%◌, ◌^◌, ◌<◌}
use native.Mathlib.Omega.{arith}
use native.Mathlib.Decide.{ℕ_discrete}
use mathlib.Core.Path.{◌≡◌, refl, ap, ◌∙◌}
use mathlib.Core.Bool.{Bool}
use mathlib.Core.Logic.{◌≢◌}
use mathlib.Core.List.{List}
use lib.ListN.{length, get_or}
use lib.Seq.{get_or-set_same, get_or-set_other}
use lib.Dec.{T, ltb→lt}
use Rattle.trees.specs.Lists.{pick}
use Rattle.trees.proofs.Bools.{T_true}
use Rattle.marks.specs.Bits.{two, more, two_at_lem, raised, Counted, Blank}
use Rattle.marks.specs.Promises.{AddOneMeets}

-- what holds at each of the four places
places : (P : ℕ → Type 0) → P 0 → P 1 → P 2 → P 3 → (k : ℕ) → k < 4 → P k
places P a b c d zero h = a
places P a b c d (suc zero) h = b
places P a b c d (suc (suc zero)) h = c
places P a b c d (suc (suc (suc zero))) h = d
places P a b c d (suc (suc (suc (suc k)))) h = absurd (omega arith)

-- a bit moved to a place, as the code makes it
pub bit_at : (k : ℕ) → k < 4 → 1 * 2 ^ (2 * k) % 65536 ≡ 2 ^ (2 * k)
bit_at = places (λ k. 1 * 2 ^ (2 * k) % 65536 ≡ 2 ^ (2 * k)) refl refl refl refl

pub more_fits : (x k : ℕ) → k < 4 → x < 65536 → two x k < 2 → more x k < 65536
unfolding two more
more_fits x k h b = places (λ k. two x k < 2 → more x k < 65536) (λ l. omega arith) (λ l. omega arith) (λ l. omega arith) (λ l. omega arith) k h

two_more : (x k : ℕ) → k < 4 → two x k < 2 → two (more x k) k ≡ two x k + 1
unfolding two more
two_more x = places (λ k. two x k < 2 → two (more x k) k ≡ two x k + 1) (λ l. omega arith) (λ l. omega arith) (λ l. omega arith) (λ l. omega arith)

two_other : (x k : ℕ) → k < 4 → (j : ℕ) → j < 4 → j ≢ k → two x k < 2 → two (more x k) j ≡ two x j
unfolding two more
two_other x =
    places (λ k. (j : ℕ) → j < 4 → j ≢ k → two x k < 2 → two (more x k) j ≡ two x j)
    (places (λ j. j ≢ 0 → two x 0 < 2 → two (more x 0) j ≡ two x j) (λ n l. absurd (n refl)) (λ n l. omega arith) (λ n l. omega arith) (λ n l. omega arith))
    (places (λ j. j ≢ 1 → two x 1 < 2 → two (more x 1) j ≡ two x j) (λ n l. omega arith) (λ n l. absurd (n refl)) (λ n l. omega arith) (λ n l. omega arith))
    (places (λ j. j ≢ 2 → two x 2 < 2 → two (more x 2) j ≡ two x j) (λ n l. omega arith) (λ n l. omega arith) (λ n l. absurd (n refl)) (λ n l. omega arith))
    (places (λ j. j ≢ 3 → two x 3 < 2 → two (more x 3) j ≡ two x j) (λ n l. omega arith) (λ n l. omega arith) (λ n l. omega arith) (λ n l. absurd (n refl)))

counted_set : (c : List ℕ) (u : ℕ) → u / 4 < length c → two (get_or c (u / 4) 0) (u % 4) < 2 → Counted c u (raised c u)
unfolding two_at_lem
counted_set c u h l =
    let x = get_or c (u / 4) 0 in
    let y = more x (u % 4) in
    record {
      here = rw (get_or-set_same c (u / 4) y 0 h) (two_more x (u % 4) (omega arith) l);
      there = λ g n. elim (ℕ_discrete (g / 4) (u / 4)) [
        | yes e ↦ rw (e, get_or-set_same c (u / 4) y 0 h) (two_other x (u % 4) (omega arith) (g % 4) (omega arith) (λ q. n (omega arith)) l)
        | no e ↦ rw (get_or-set_other c (u / 4) (g / 4) y 0 e)
      ];
    }

-- ---- tables

two_zero : (k : ℕ) → k < 4 → two 0 k ≡ 0
unfolding two
two_zero = places (λ k. two 0 k ≡ 0) refl refl refl refl

-- a blank table has nothing at any node
pub blank_at : {c : List ℕ} → Blank c → (g : ℕ) → g < 2048 → two_at_lem c g ≡ 0
unfolding two_at_lem
blank_at b g h = ap (λ x. two x (g % 4)) (b.zero (g / 4) (omega arith)) ∙ two_zero (g % 4) (omega arith)

-- what adding one does where it is done
pub added : (c d : List ℕ) (r : Bool) (u : ℕ) → length c ≡ 512 → u < 2048 → AddOneMeets c u r d → T r → Counted c u d
unfolding two_at_lem pick
added c d r u size h m t =
    let y = T_true {b = r} t in
    let l : two_at_lem c u < 2 = ltb→lt (two_at_lem c u) 2 (rw m.0 at t) in
    rw (m.1, y) (counted_set c u (omega (arith, size)) l)

-- and it is done where there was nothing
pub adds : (c d : List ℕ) (r : Bool) (u : ℕ) → two_at_lem c u ≡ 0 → AddOneMeets c u r d → T r
adds c d r u e m = rw (m.0, e) tt
