-- The two sums of a block: as a loop keeps them, and that one changed byte shows. Assumes nothing.
use Rattle.std.proofs.Common.{add-one, ◌++◌, ◌≡◌, ℕ, zero, suc, ◌+◌, ◌%◌, ◌<◌, ◌≤◌, false, T, eqb, ◌≢◌, List, [], ◌∷◌, length, get_or, take, drop, set, sym, ap, ◌∙◌, inl, inr, arith, eqb→eq, length-take-le, drop-cons, get_or-set_other, get_or-take, get_or-set_same, eq-eqb}
use native.Mathlib.Decide.{dec_lt, ℕ_discrete}
use lib.Seq.{take-set-lt, take-set-le}
use Rattle.trees.proofs.Bools.{test, and_left, and_right, true_T}
use Rattle.blocks.specs.Halves.{Under}
use Rattle.blocks.specs.Blocks.{Sums, start, grown, sums, word, checked}

-- ---- as a loop keeps them

-- the sums s so far lead over the bytes that are left, those of a piece and then whole fours, to the sums of the bytes 0 to 507
pub record Adding (b piece rest : List ℕ) (size : ℕ) (s : Sums) : Type 0 where
  pub four : size ≡ 4
  pub whole : length rest % 4 ≡ 0
  pub lead : sums s (piece ++ rest) ≡ sums start (take 508 b)

pub adding_start : (b rest : List ℕ) (size : ℕ) → length b ≡ 512 → rest ≡ take 508 b → size ≡ 4 → Adding b [] rest size start
adding_start b rest size n e f =
    let l : length (take 508 b) ≡ 508 = length-take-le 508 b (omega arith) in
    record { four = f; whole = rw (e, l); lead = ap (sums start) e }

-- one byte of the piece more
pub adding_byte : (b piece rest : List ℕ) (size i : ℕ) (s u : Sums) → i < length piece → u ≡ grown s (get_or piece i 0) → Adding b (drop i piece) rest size s → Adding b (drop (i + 1) piece) rest size u
unfolding sums
adding_byte b piece rest size i s u h e p =
    record { four = p.four; whole = p.whole; lead = rw (e, add-one) (rw (drop-cons piece i 0 h) at p.lead) }

pub adding_end : (b rest : List ℕ) (size : ℕ) (s : Sums) → length rest < size → Adding b [] rest size s → s ≡ sums start (take 508 b)
unfolding sums
adding_end b [] size s h p = p.lead
adding_end b (x ∷ rest) size s h p = absurd (omega (arith, p.whole, p.four))

-- ---- one changed byte

total : List ℕ → ℕ
total [] = 0
total (x ∷ l) = x + total l

sum_total : (s : Sums) (l : List ℕ) → s.a < 65536 → (sums s l).a ≡ (s.a + total l) % 65536
unfolding sums total
sum_total s [] h = omega arith
sum_total s (x ∷ l) h = sum_total (grown s x) l (omega arith) ∙ omega arith

total_set : (l : List ℕ) (i v : ℕ) → i < length l → total (set l i v) + get_or l i 0 ≡ total l + v
unfolding total
total_set [] i v h = absurd (omega arith)
total_set (x ∷ l) zero v h = omega arith
total_set (x ∷ l) (suc i) v h = omega (arith, total_set l i v (omega arith))

-- the first sum alone shows it: the two differ by less than 256, and not by a multiple of 65,536
sum_differs : (l : List ℕ) (i v : ℕ) → i < length l → get_or l i 0 < 256 → v < 256 → v ≢ get_or l i 0 → (sums start (set l i v)).a ≢ (sums start l).a
sum_differs l i v h b c d e = omega (arith, total_set l i v h, sum_total start l (omega arith), sum_total start (set l i v) (omega arith))

under_set : (m : ℕ) (l : List ℕ) (i v : ℕ) → Under m l → v < m → Under m (set l i v)
under_set m [] i v u h j = u j
under_set m (x ∷ l) zero v u h zero = h
under_set m (x ∷ l) zero v u h (suc j) = u (suc j)
under_set m (x ∷ l) (suc i) v u h zero = u 0
under_set m (x ∷ l) (suc i) v u h (suc j) = under_set m l i v (λ k. u (suc k)) h j

-- equal words have equal bytes
same_bytes : (p q : List ℕ) (at i : ℕ) → Under 256 p → Under 256 q → word p at ≡ word q at → at ≤ i → i < at + 2 → get_or p i 0 ≡ get_or q i 0
same_bytes p q at i u w e h k =
    elim (ℕ_discrete i at) [
      | yes z ↦ rw z (omega (arith, u at, w at))
      | no z ↦ let y : i ≡ at + 1 = omega arith in rw y (omega (arith, u at, w at))
    ]

-- what a block's check says
pub checked_says : (b : List ℕ) → T (checked b) → (word b 508 ≡ (sums start (take 508 b)).a) × (word b 510 ≡ (sums start (take 508 b)).b)
unfolding checked
checked_says b t = (eqb→eq _ _ (and_left (eqb (word b 508) _) _ t), eqb→eq _ _ (and_right (eqb (word b 508) _) _ t))

pub says_checked : (b : List ℕ) → word b 508 ≡ (sums start (take 508 b)).a → word b 510 ≡ (sums start (take 508 b)).b → T (checked b)
unfolding checked
says_checked b p q = rw (eq-eqb (word b 508) _ p, eq-eqb (word b 510) _ q) tt

module _ (b : List ℕ) (i v : ℕ) (n : length b ≡ 512) (u : Under 256 b) (t : T (checked b)) (k : v < 256) (d : v ≢ get_or b i 0) where
  before_check : i < 508 → T (checked (set b i v)) → ⊥
  before_check h s =
      let e : word (set b i v) 508 ≡ word b 508 = rw (get_or-set_other b i 508 v 0 (omega arith), get_or-set_other b i 509 v 0 (omega arith)) in
      sum_differs (take 508 b) i v (rw (length-take-le 508 b (omega arith)) h) (rw (get_or-take 508 b i 0 h) (u i)) k (rw (get_or-take 508 b i 0 h) d)
      (ap (λ l. (sums start l).a) (sym (take-set-lt 508 b i v h)) ∙ sym (checked_says (set b i v) s).0 ∙ e ∙ (checked_says b t).0)

  within_check : 508 ≤ i → i < 512 → T (checked (set b i v)) → ⊥
  within_check h m s =
      let same : take 508 (set b i v) ≡ take 508 b = take-set-le 508 b i v h in
      let p : word (set b i v) 508 ≡ word b 508 = (checked_says (set b i v) s).0 ∙ ap (λ l. (sums start l).a) same ∙ sym (checked_says b t).0 in
      let q : word (set b i v) 510 ≡ word b 510 = (checked_says (set b i v) s).1 ∙ ap (λ l. (sums start l).b) same ∙ sym (checked_says b t).1 in
      let x : v ≡ get_or (set b i v) i 0 = sym (get_or-set_same b i v 0 (omega arith)) in
      elim (dec_lt i 510) [
        | yes l ↦ d (x ∙ same_bytes (set b i v) b 508 i (under_set 256 b i v u k) u p h (omega arith))
        | no l ↦ d (x ∙ same_bytes (set b i v) b 510 i (under_set 256 b i v u k) u q (omega arith) (omega arith))
      ]

  -- a block that bears its check, and one byte of it changed
  pub checked_set : i < 512 → checked (set b i v) ≡ false
  checked_set m =
      elim (test (checked (set b i v))) [
        | inl e ↦ absurd (elim (dec_lt i 508) [ yes h ↦ before_check h (true_T e) | no h ↦ within_check (omega arith) m (true_T e) ])
        | inr e ↦ e
      ]
