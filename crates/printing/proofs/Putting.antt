-- Bytes put into a buffer, one run behind the other. Assumes nothing.
use Prim.Native.Nat.{ℕ, suc, ◌+◌, ◌-◌, ◌/◌, ◌%◌, ◌≤◌, ◌<◌}
use native.Mathlib.Omega.{arith}
use native.Mathlib.Nat.{add-zero, zero-add}
use native.Mathlib.Numerals.{add-one}
use mathlib.Core.Path.{◌≡◌, refl, sym, ap, ◌∙◌}
use mathlib.Core.List.{List, [], ◌∷◌, ◌++◌, append-nil, append_assoc}
use lib.ListN.{length, set, length-append}
use lib.Seq.{sets, length-sets, sets-eq, set_comm}
use borrow.Author.Tests.{le-leb, lt-leb}
use Rattle.trees.specs.Lists.{pick}
use Rattle.trees.specs.Lent.{replaced}
use Rattle.numbers.specs.Numbers.{decimal}
use Rattle.printing.specs.Printing.{ended}
use Rattle.printing.specs.Putting.{Put, Outcome, outcome}
use Rattle.printing.proofs.Decimal.{decimal_low, decimal_high, decimal_fewer, decimal_one, decimal_some}

sets_append : (l : List ℕ) (i : ℕ) (a b : List ℕ) → sets l i (a ++ b) ≡ sets (sets l i a) (i + length a) b
sets_append l i [] b = ap (λ k. sets l k b) (sym (add-zero i))
sets_append l i (x ∷ a) b =
    let e : suc i + length a ≡ i + suc (length a) = omega arith in
    sets_append (set l i x) (suc i) a b ∙ ap (λ k. sets (sets (set l i x) (suc i) a) k b) e

-- a byte before the run
set_before : (l : List ℕ) (j i b : ℕ) (vs : List ℕ) → j < i → set (sets l i vs) j b ≡ sets (set l j b) i vs
set_before l j i b [] h = refl
set_before l j i b (x ∷ vs) h =
    set_before (set l i x) j (suc i) b vs (omega arith) ∙ ap (λ m. sets m (suc i) vs) (set_comm l i j x b (λ e. omega arith))

module _ {at next : ℕ} {new old out : List ℕ} (P : Put at new old out next) where
  pub put_length : length out ≡ length old
  put_length = ap length P.content ∙ length-sets old at new

  -- another run behind it
  pub put_then : {after : ℕ} {more end : List ℕ} → Put next more out end after → Put at (new ++ more) old end after
  put_then {after} {more} {end} Q =
      record {
        content = Q.content ∙ rw (P.content, P.place) (sym (sets_append old at new more));
        place = Q.place ∙ rw (P.place, length-append new more) (omega arith);
      }

  -- one byte behind it
  put_byte : (b : ℕ) → Put at (new ++ b ∷ []) old (set out next b) (next + 1)
  put_byte b = put_then (record { content = refl; place = refl })

-- two bytes behind it
pub put_two : {at next : ℕ} {new old out : List ℕ} → Put at new old out next → (a b : ℕ) → Put at (new ++ a ∷ b ∷ []) old (set (set out next a) (next + 1) b) (next + 2)
put_two {next = next} {out = out} P a b = put_then P (record { content = rw (add-one next); place = refl })

pub ended_length : (n b : ℕ) → length (ended n b) ≡ length (decimal n) + 1
unfolding ended
ended_length n b = length-append (decimal n) (b ∷ [])

-- ---- the digits of a number, from the last one on

-- the digits behind those of the rest are put
pub record Digging (n at : ℕ) (old : List ℕ) (i rest : ℕ) (out : List ℕ) : Type 0 where
  pub tail : List ℕ
  pub split : decimal n ≡ decimal rest ++ tail
  pub place : i ≡ at + length (decimal rest)
  pub content : out ≡ sets old i tail

module _ (n at : ℕ) (old : List ℕ) where
  pub dig_none : Digging n at old (at + length (decimal n)) n old
  dig_none = record { tail = []; split = sym (append-nil (decimal n)); place = refl; content = refl }

  module _ (i rest : ℕ) (out : List ℕ) (D : Digging n at old i rest out) where
    pub dig_length : length out ≡ length old
    dig_length = ap length D.content ∙ length-sets old i D.tail

    -- at is before i, and i no further than the end of the digits
    pub dig_inside : (at < i) × (i ≤ at + length (decimal n))
    dig_inside = (omega (arith, D.place, decimal_some rest), omega (arith, D.place, ap length D.split, length-append (decimal rest) D.tail))

    -- the digit written next lies in a buffer with room for the number
    pub dig_room : (b : ℕ) → at + length (ended n b) ≤ length old → (1 ≤ i) × (i < length out)
    dig_room b h =
        let d = dig_inside in
        (omega (arith, d.0), omega (arith, d.1, dig_length, ended_length n b))

    -- the digit at i - 1
    one_digit : (d : ℕ) → set out (i - 1) d ≡ sets old (i - 1) (d ∷ D.tail)
    one_digit d =
        let l : at < i = dig_inside.0 in
        let e : suc (i - 1) ≡ i = omega arith in
        rw (D.content, e) (set_before old (i - 1) i d D.tail (omega arith))

    pub dig_more : 10 ≤ rest → Digging n at old (i - 1) (rest / 10) (set out (i - 1) (48 + rest % 10))
    dig_more h =
        record {
          tail = (48 + rest % 10) ∷ D.tail;
          split = D.split ∙ rw (decimal_high rest h) (append_assoc (decimal (rest / 10)) ((48 + rest % 10) ∷ []) D.tail);
          place = omega (arith, D.place, decimal_fewer rest h);
          content = one_digit (48 + rest % 10);
        }

    -- the first digit, and the byte b behind the last
    pub dig_end : (b : ℕ) → rest < 10 → Put at (ended n b) old (set (set out (i - 1) (48 + rest)) (at + length (decimal n)) b) (at + length (decimal n) + 1)
    unfolding ended
    dig_end b h =
        let e : i - 1 ≡ at = omega (arith, D.place, decimal_one rest h) in
        let P : Put at (decimal n) old (set out (i - 1) (48 + rest)) (at + length (decimal n)) =
        record { content = one_digit (48 + rest) ∙ rw (e, D.split, decimal_low rest h); place = refl } in
        put_byte P b

-- ---- room

-- room for two runs is room for the first
pub room_less : (at : ℕ) (a b : List ℕ) (n : ℕ) → at + length (a ++ b) ≤ n → at + length a ≤ n
room_less at a b n h = omega (arith, length-append a b)

-- and, behind it, for the second
pub put_room : {at next : ℕ} {new old out : List ℕ} → Put at new old out next → (more : List ℕ) → at + length (new ++ more) ≤ length old → next + length more ≤ length out
put_room {new = new} P more h = omega (arith, P.place, put_length P, length-append new more)

-- ---- what a writer leaves

-- the buffer is too short
pub outcome_short : (new old : List ℕ) → length old < length new → ◌≡◌ {A = Outcome} (record { written = 0; out = old }) (outcome new old)
unfolding outcome pick
outcome_short new old h = rw (lt-leb (length new) (length old) h)

-- everything is written
pub outcome_put : (new old out : List ℕ) (next : ℕ) → length new ≤ length old → Put 0 new old out next → ◌≡◌ {A = Outcome} (record { written = next; out = out }) (outcome new old)
unfolding outcome pick replaced
outcome_put new old out next h P =
    rw (le-leb (length new) (length old) h, P.content, P.place, sets-eq new old 0 (rw (zero-add (length new)) h), zero-add (length new))

-- other words for the same bytes
pub outcome_of : (old : List ℕ) {o : Outcome} {new other : List ℕ} → o ≡ outcome new old → other ≡ new → o ≡ outcome other old
outcome_of old e q = rw q e
