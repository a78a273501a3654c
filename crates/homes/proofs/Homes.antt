-- Where every gene node passes the test, each leaf is at a place that carries its taxon. Assumes nothing.
use Prim.Native.Nat.{ℕ, ◌≤◌, ◌<◌}
use native.Mathlib.Omega.{arith}
use mathlib.Core.Path.{◌≡◌}
use mathlib.Core.Logic.{inl, inr, ◌↔◌}
use mathlib.Core.Bool.{Bool}
use mathlib.Core.List.{List}
use lib.ListN.{length, get_or}
use lib.Dec.{T, eqb, eqb→eq}
use Rattle.std.specs.List.{range_with_len, list_all}
use Rattle.std.proofs.lemmas.List.FromFn.{length-range_with_len, get_or-range_with_len}
use Rattle.std.proofs.lemmas.List.Sums.{AllPass-from_list_all, list_all-from_AllPass}
use Rattle.trees.specs.Tables.{taxon}
use Rattle.passes.specs.Promises.{AllBelow}
use Rattle.trees.proofs.Bools.{or_cases, true_T, T_true}
use Rattle.homes.specs.Homes.{homed_by, Homed}
use Rattle.homes.specs.Promises.{Housed, AllHomedMeets}

pub housed_homed : {st gt pl : List ℕ} → Housed st gt pl → Homed st gt pl
unfolding homed_by
housed_homed {st} {gt} {pl} H =
    record {
      home = λ g h n.
          (H.places.below g h, elim (or_cases (eqb (taxon gt g) 0) (eqb (taxon st (get_or pl g 0)) (taxon gt g)) (H.home g h)) [ inl z ↦ absurd (n (eqb→eq _ 0 z)) | inr z ↦ eqb→eq _ _ z ]);
    }

-- a test of each of the first n numbers
all_test : (p : ℕ → Bool) (n : ℕ) → T (list_all p (range_with_len 0 n)) ↔ ((k : ℕ) → k < n → T (p k))
all_test p n =
    let xs = range_with_len 0 n in
    let size : length xs ≡ n = length-range_with_len 0 n in
    let item : (k d : ℕ) → k < n → get_or xs k d ≡ k = λ k d h. omega (arith, get_or-range_with_len 0 n k d h) in (
      λ t k h. true_T (rw (item k 0 h) at (AllPass-from_list_all p xs (T_true t) k 0 (omega arith))),
      λ f. true_T (list_all-from_AllPass p xs (λ k d h. let lt : k < n = omega arith in rw (item k d lt) (T_true (f k lt)))),
    )

-- what the test of all gene nodes answers, where each place is a species node
pub all_meets : (st gt pl : List ℕ) (r : Bool) → length st ≤ 65535 → AllBelow pl (length gt) (length st) → r ≡ list_all (homed_by st gt pl) (range_with_len 0 (length gt))
    → AllHomedMeets st gt pl r
all_meets st gt pl r few B e =
    let A = all_test (homed_by st gt pl) (length gt) in
    rw e (λ t. record { few = few; places = B; home = A.0 t }, λ H. A.1 H.home)
