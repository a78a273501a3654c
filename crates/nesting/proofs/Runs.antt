-- The runs shared out, and where they start: one turn of each loop that does it, and what the two give together. Assumes nothing.
use Prim.Native.Nat.{ℕ, zero, suc, ◌+◌, ◌≤◌, ◌<◌}
use native.Mathlib.Omega.{arith}
use native.Mathlib.Numerals.{add-one}
use native.Mathlib.Decide.{ℕ_discrete}
use mathlib.Core.Path.{◌≡◌, refl, sym, ap, ◌∙◌}
use mathlib.Core.Logic.{inl, inr, ◌≢◌}
use mathlib.Core.List.{List}
use lib.ListN.{length, get_or, set, length-set}
use lib.Seq.{get_or-set_same, get_or-set_other}
use Rattle.trees.specs.Lists.{range, total}
use Rattle.trees.specs.Trees.{up}
use Rattle.trees.specs.First.{ParentsFirst}
use Rattle.trees.specs.Sound.{SoundTree}
use Rattle.trees.proofs.Lists.{has_range, total_more, total_member}
use Rattle.trees.proofs.Lines.{up_at, parent_in}
use Rattle.nesting.specs.Runs.{Unshared, Shared, Settling, Settled, Laid}

-- ---- sums of a table's first entries

abbrev sum : List ℕ → ℕ → ℕ
sum l i = total (λ j. get_or l j 0) (range 0 i)

sum_none : (l : List ℕ) → sum l 0 ≡ 0
unfolding total range
sum_none l = refl

sum_more : (l : List ℕ) (i : ℕ) → sum l (suc i) ≡ sum l i + get_or l i 0
sum_more l i = rw (← add-one i) (total_more (λ j. get_or l j 0) i)

sum_ones : (l : List ℕ) (n i : ℕ) → ((j : ℕ) → j < n → get_or l j 0 ≡ 1) → i ≤ n → sum l i ≡ i
sum_ones l n zero f h = sum_none l
sum_ones l n (suc i) f h = omega (arith, sum_more l i, sum_ones l n i f (omega arith), f i (omega arith))

-- an entry past those summed is written
sum_past : (l : List ℕ) (i u v : ℕ) → i ≤ u → sum (set l u v) i ≡ sum l i
sum_past l zero u v h = sum_none (set l u v) ∙ sym (sum_none l)
sum_past l (suc i) u v h = omega (arith, sum_more l i, sum_more (set l u v) i, sum_past l i u v (omega arith), get_or-set_other l u i v 0 (omega arith))

-- one of them is
sum_set : (l : List ℕ) (i u v : ℕ) → u < i → u < length l → sum (set l u v) i + get_or l u 0 ≡ sum l i + v
sum_set l zero u v h b = absurd (omega arith)
sum_set l (suc i) u v h b =
    let m = sum_more l i in
    let n = sum_more (set l u v) i in
    elim (ℕ_discrete u i) [
      | yes e ↦ omega (arith, m, n, sum_past l i u v (omega arith), ap (λ j. get_or (set l u v) j 0) e, ap (λ j. get_or l j 0) e, get_or-set_same l u v 0 b)
      | no e ↦ omega (arith, m, n, sum_set l i u v (omega arith) b, get_or-set_other l u i v 0 (omega arith))
    ]

-- a node's parent comes before it
pub parent_low : {par : List ℕ} → ParentsFirst par → (i : ℕ) → 0 < i → i < length par → get_or par i 0 < i
parent_low {par} F i a b = parent_in par i b (F.order i a b)

-- ---- the runs are shared out, from the last node to the first

pub shared_start : {par off run turn : List ℕ} → Unshared par off run turn → Shared par (length par) off run turn
shared_start {par} {off} {run} {turn} U =
    record {
      off_room = U.off_room;
      run_room = U.run_room;
      turn_room = U.turn_room;
      top = U.top;
      some = λ j l. omega (arith, U.ones j l);
      sum = sum_ones run (length par) (length par) U.ones (omega arith);
      after = λ j a b. absurd (omega arith);
      inside = λ j a b. absurd (omega arith);
      apart = λ j k a b d e. absurd (omega arith);
      turned = λ j a b. absurd (omega arith);
    }

module _ {par tax : List ℕ} (S : SoundTree par tax) (F : ParentsFirst par) where
  -- one node more gets its part: the nodes from m on have it, and i is the one before them
  module _ (i : ℕ) {m : ℕ} {off run turn : List ℕ} (e : m ≡ i + 1) (a : 0 < i) (b : i < length par) (D : Shared par m off run turn) where
    whole : sum run i + get_or run i 0 ≡ length par
    whole = omega (arith, ap (sum run) e, total_more (λ j. get_or run j 0) i, D.sum)

    abbrev u : ℕ
    u = get_or par i 0

    abbrev s : ℕ
    s = get_or run u 0

    -- the two runs together are at most all positions
    pub shared_fits : s + get_or run i 0 ≤ 2047
    shared_fits =
        let l : u < i = parent_in par i b (F.order i a b) in
        omega (arith, S.few, whole, total_member (λ j. get_or run j 0) u (range 0 i) (has_range 0 i u (omega arith) (omega arith)))

    pub shared_turn : Shared par i (set off i s) (set run u (s + get_or run i 0)) (set turn u s)
    shared_turn =
        let l : u < i = parent_in par i b (F.order i a b) in
        let R : length par ≤ length run = D.run_room in
        let v : ℕ = s + get_or run i 0 in
        let off-here : get_or (set off i s) i 0 ≡ s = get_or-set_same off i s 0 (omega (arith, D.off_room)) in
        let off-else : (j : ℕ) → j ≢ i → get_or (set off i s) j 0 ≡ get_or off j 0 = (λ j n. get_or-set_other off i j s 0 n) in
        let run-here : get_or (set run u v) u 0 ≡ v = get_or-set_same run u v 0 (omega arith) in
        let run-else : (j : ℕ) → j ≢ u → get_or (set run u v) j 0 ≡ get_or run j 0 = (λ j n. get_or-set_other run u j v 0 n) in
        let run_more : (j : ℕ) → get_or run j 0 ≤ get_or (set run u v) j 0 =
        (λ j. elim (ℕ_discrete j u) [ yes e ↦ rw e (omega (arith, run-here)) | no n ↦ omega (arith, run-else j n) ]) in
        let turn-here : get_or (set turn u s) u 0 ≡ s = get_or-set_same turn u s 0 (omega (arith, D.turn_room)) in
        let turn-else : (j : ℕ) → j ≢ u → get_or (set turn u s) j 0 ≡ get_or turn j 0 = (λ j n. get_or-set_other turn u j s 0 n) in
        record {
          off_room = omega (arith, length-set off i s, D.off_room);
          run_room = omega (arith, length-set run u v);
          turn_room = omega (arith, length-set turn u s, D.turn_room);
          top = off-else 0 (omega arith) ∙ D.top;
          some = λ j h. omega (arith, D.some j h, run_more j);
          sum = omega (arith, sum_set run i u v l (omega arith), whole);
          after = λ j x h. elim (ℕ_discrete j i) [
            | yes z ↦ rw z (omega (arith, off-here, D.some u (omega arith)))
            | no n ↦ omega (arith, off-else j n, D.after j (omega arith) h)
          ];
          inside = λ j x h. elim (ℕ_discrete j i) [
            | yes z ↦ rw z (omega (arith, off-here, run-here, run-else i (omega arith)))
            | no n ↦ omega (arith, off-else j n, run-else j (omega arith), run_more (get_or par j 0), D.inside j (omega arith) h)
          ];
          apart = λ j k x y h q. elim (ℕ_discrete j i) [
            | yes z ↦ rw z (omega (arith, off-here, off-else k (omega arith), run-else k (omega arith), ap (λ m. get_or run m 0) (q ∙ ap (λ m. get_or par m 0) z), D.inside k (omega arith) h))
            | no n ↦ omega (arith, off-else j n, off-else k (omega arith), run-else k (omega arith), D.apart j k (omega arith) y h q)
          ];
          turned = λ j x h. elim (ℕ_discrete j i) [
            | yes z ↦ rw z (inl (omega (arith, off-here, turn-here)))
            | no n ↦ elim (ℕ_discrete (get_or par j 0) u) [
              | yes q ↦ rw q (inr (omega (arith, off-else j n, run-else j (omega arith), turn-here, ap (λ m. get_or run m 0) q, D.inside j (omega arith) h)))
              | no q ↦ rw (off-else j n, run-else j (omega arith), turn-else (get_or par j 0) q) (D.turned j (omega arith) h)
            ]
          ];
        }

-- ---- where the runs start, from the first node to the last

pub settling_start : (par off : List ℕ) → get_or off 0 0 ≡ 0 → Settling par 1 off off
settling_start par off e = record { size = refl; top = e; at = λ j a b. absurd (omega arith); rest = λ j a. refl }

module _ {par tax : List ℕ} (S : SoundTree par tax) (F : ParentsFirst par) where
  module _ {off start : List ℕ} (i : ℕ) (a : 0 < i) (b : i < length par) (r : length par ≤ length off) (D : Settling par i off start) where
    pub settling_turn : Settling par (i + 1) off (set start i (get_or start i 0 + get_or start (get_or par i 0) 0))
    settling_turn =
        let v : ℕ = get_or start i 0 + get_or start (get_or par i 0) 0 in
        let here : get_or (set start i v) i 0 ≡ v = get_or-set_same start i v 0 (omega (arith, D.size)) in
        let else : (j : ℕ) → j ≢ i → get_or (set start i v) j 0 ≡ get_or start j 0 = (λ j n. get_or-set_other start i j v 0 n) in
        record {
          size = length-set start i v ∙ D.size;
          top = else 0 (omega arith) ∙ D.top;
          at = λ j x y. elim (ℕ_discrete j i) [
            | yes z ↦ rw z (omega (arith, here, else (get_or par i 0) (omega (arith, parent_in par i b (F.order i a b))), D.rest i (omega arith)))
            | no n ↦ omega (arith, else j n, else (get_or par j 0) (omega (arith, parent_in par j (omega arith) (F.order j x (omega arith)))), D.at j x (omega arith))
          ];
          rest = λ j x. else j (omega arith) ∙ D.rest j (omega arith);
        }

  module _ {off run turn : List ℕ} (H : Shared par 1 off run turn) where
    -- the root's run is all positions
    run_whole : get_or run 0 0 ≡ length par
    run_whole = omega (arith, H.sum, sum_more run 0, sum_none run)

    module _ {start : List ℕ} {i : ℕ} (b : i ≤ length par) (D : Settling par i off start) where
      within_fuel : (k j : ℕ) → j < k → j < i → get_or start j 0 + get_or run j 0 ≤ length par
      within_fuel zero j x y = absurd (omega arith)
      within_fuel (suc k) j x y =
          elim (ℕ_discrete j 0) [
            | yes z ↦ rw z (omega (arith, D.top, run_whole))
            | no n ↦
                let u : get_or par j 0 < j = parent_in par j (omega arith) (F.order j (omega arith) (omega arith)) in
                omega (arith, D.at j (omega arith) y, H.inside j (omega arith) (omega arith), within_fuel k (get_or par j 0) (omega arith) (omega arith))
          ]

      -- every run lies among the positions
      pub within_whole : (j : ℕ) → j < i → get_or start j 0 + get_or run j 0 ≤ length par
      within_whole j y = within_fuel (suc j) j (omega arith) y

      pub settling_fits : 0 < i → i < length par → get_or start i 0 + get_or start (get_or par i 0) 0 ≤ 2047
      settling_fits a y =
          let u : get_or par i 0 < i = parent_in par i y (F.order i a y) in
          omega (arith, S.few, D.rest i (omega arith), H.inside i (omega arith) y, within_whole (get_or par i 0) u)

    -- what the two loops give together
    pub laid : {start : List ℕ} → Settled par off start → Laid par start run turn
    laid {start} D =
        let at : (j : ℕ) → 0 < j → j < length par → get_or start j 0 ≡ get_or start (up par j) 0 + get_or off j 0 = (λ j a b. rw (up_at par j b) (D.at j a b)) in
        record {
          first = F;
          start_room = omega (arith, D.size, H.off_room);
          run_room = H.run_room;
          turn_room = H.turn_room;
          some = H.some;
          small = λ j b. omega (arith, S.few, within_whole (omega arith) D j b);
          after = λ j a b. omega (arith, at j a b, H.after j (omega arith) b);
          inside = λ j a b. omega (arith, at j a b, rw (← up_at par j b) at (H.inside j (omega arith) b));
          apart = λ j k a x b e. omega (
            arith,
            at j a (omega arith),
            at k (omega arith) b,
            ap (λ m. get_or start m 0) e,
            H.apart j k (omega arith) x b (sym (up_at par k b) ∙ e ∙ up_at par j (omega arith)),
          );
          turned = λ j a b. elim (rw (← up_at par j b) at (H.turned j (omega arith) b)) [
            | inl x ↦ inl (omega (arith, at j a b))
            | inr x ↦ inr (omega (arith, at j a b))
          ];
        }
