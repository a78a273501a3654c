-- What each way through a question answers. Assumes nothing.
use Prim.Native.Nat.{ℕ, ◌*◌, ◌/◌, ◌%◌, ◌≤◌, ◌<◌}
use native.Mathlib.Omega.{arith}
use mathlib.Core.Path.{◌≡◌, refl, sym, ap, ◌∙◌}
use mathlib.Core.Logic.{inl, inr}
use mathlib.Core.Bool.{true, false, ◌&&◌}
use mathlib.Core.List.{List}
use lib.ListN.{length}
use lib.Dec.{eqb, eqb→eq}
use borrow.Author.Tests.{lt-leb, le-leb, eq-eqb, ne_eqb}
use Rattle.trees.specs.Lists.{pick}
use Rattle.trees.specs.Rulings.{Ruling, accepted, refused, whole, number_of, tree_of, verdict}
use Rattle.trees.specs.Rules.{sized, species_rules}
use Rattle.trees.proofs.Bools.{test, and_left, and_right, true_T, clash}
use Rattle.trees.proofs.Rulings.{ruling_fail}
use Rattle.blocks.proofs.Halves.{length_joined}
use Rattle.families.specs.Loading.{Contents, lends, open_rules, entry_rules, load}
use Rattle.families.proofs.Places.{place_fits}
use Rattle.judging.specs.Judging.{image_rules, plain}
use Rattle.opening.proofs.Opening.{opens_few}
use Rattle.judging.proofs.Judging.{judged_load}
use Rattle.rack.specs.Rack.{number_in, tree_in, place_in}
use Rattle.collector.specs.Host.{fits, rack_parents, rack_taxa, scratch, host_ruling}

pub host_unfit : (image parents taxa : List ℕ) → fits parents taxa ≡ false → refused 1 1 0 ≡ host_ruling image parents taxa
unfolding host_ruling pick
host_unfit image parents taxa e = rw e

pub host_fit : (image parents taxa : List ℕ) → fits parents taxa ≡ true → (load (rack_parents parents) (rack_taxa taxa) image scratch).answer ≡ host_ruling image parents taxa
unfolding host_ruling pick
host_fit image parents taxa e = rw e

-- the lengths of tables that fit
pub fit_lengths : (parents taxa : List ℕ) → fits parents taxa ≡ true → (length parents ≡ 2 * (length parents / 2)) × (length taxa ≡ 4 * (length parents / 2))
unfolding fits
fit_lengths parents taxa e =
    let a = eqb (length parents % 2) 0 in
    let b = eqb (length taxa % 4) 0 in
    let c = eqb (length parents / 2) (length taxa / 4) in
    let t = true_T e in
    let ab = and_left (a && b) c t in
    let x = eqb→eq (length parents % 2) 0 (and_left a b ab) in
    let y = eqb→eq (length taxa % 4) 0 (and_right a b ab) in
    let z = eqb→eq (length parents / 2) (length taxa / 4) (and_right (a && b) c t) in
    (omega (arith, x), omega (arith, y, z))

-- more entries than a tree may have
pub host_long : (image parents taxa : List ℕ) → fits parents taxa ≡ true → 2047 < length parents / 2 → refused 1 1 0 ≡ host_ruling image parents taxa
unfolding load entry_rules open_rules species_rules number_of tree_of sized
host_long image parents taxa e l =
    let n = length parents / 2 in
    let len : length (rack_parents parents) ≡ n = length_joined 256 n parents (fit_lengths parents taxa e).0 in
    let z : sized (rack_parents parents) (rack_taxa taxa) ≡ false = rw (len, le-leb 1 n (omega arith), lt-leb n 2047 l) in
    sym (ruling_fail (whole 1 1 0 (sized (rack_parents parents) (rack_taxa taxa))) _ _ 0 (refl, z)) ∙ host_fit image parents taxa e

-- the test of the lengths, as the code makes it
module _ (parents taxa : List ℕ) where
  pub fits_odd : (length parents % 2 ≡ 0 → ⊥) → false ≡ fits parents taxa
  unfolding fits
  fits_odd n = rw (ne_eqb (length parents % 2) 0 n)

  pub fits_part : length parents % 2 ≡ 0 → (length taxa % 4 ≡ 0 → ⊥) → false ≡ fits parents taxa
  unfolding fits
  fits_part e n = rw (eq-eqb (length parents % 2) 0 e, ne_eqb (length taxa % 4) 0 n)

  pub fits_same : length parents % 2 ≡ 0 → length taxa % 4 ≡ 0 → eqb (length parents / 2) (length taxa / 4) ≡ fits parents taxa
  unfolding fits
  fits_same e f = rw (eq-eqb (length parents % 2) 0 e, eq-eqb (length taxa % 4) 0 f)

-- the tables that a call works in are long enough for any image that opens
scratch_lends : (q : ℕ) → q ≤ 2047 → lends q scratch ≡ true
unfolding lends
scratch_lends q h = rw (le-leb q 2047 h)

-- an image is judged as it is loaded
pub host_judged : (image parents taxa : List ℕ) → fits parents taxa ≡ true → verdict (image_rules (rack_parents parents) (rack_taxa taxa) image) ≡ plain (host_ruling image parents taxa)
host_judged image parents taxa e =
    judged_load (rack_parents parents) (rack_taxa taxa) image scratch
    (λ o. scratch_lends _ (opens_few {sp = rack_parents parents} {st = rack_taxa taxa} {s = image} (record { opens = o; genes = refl })))
    ∙ ap plain (host_fit image parents taxa e)

-- what is answered of a ruling does not need its value
pub number_plain : (r : Ruling Contents) → number_in (plain r) ≡ number_in r
number_plain (accepted c) = refl
number_plain (refused n t v) = refl

pub tree_plain : (r : Ruling Contents) → tree_in (plain r) ≡ tree_in r
tree_plain (accepted c) = refl
tree_plain (refused n t v) = refl

pub place_plain : (r : Ruling Contents) → place_in (plain r) ≡ place_in r
place_plain (accepted c) = refl
place_plain (refused n t v) = refl

-- ---- the place has 16 bits

plain_refused : (r : Ruling Contents) (n t v : ℕ) → refused n t v ≡ plain r → r ≡ refused n t v
plain_refused (accepted c) n t v e = clash (cc)
plain_refused (refused m u w) n t v e = let f : refused n t v ≡ refused m u w = e in cc

host_place : (image parents taxa : List ℕ) (n t v : ℕ) → host_ruling image parents taxa ≡ refused n t v → v < 65536
host_place image parents taxa n t v e =
    elim (test (fits parents taxa)) [
      | inl f ↦ place_fits (rack_parents parents) (rack_taxa taxa) image scratch n t v (host_fit image parents taxa f ∙ e)
      | inr f ↦ let g : refused 1 1 0 ≡ refused n t v = host_unfit image parents taxa f ∙ e in let z : 0 ≡ v = cc in omega arith
    ]

pub place_small : (image parents taxa : List ℕ) (n t v : ℕ) → refused n t v ≡ plain (host_ruling image parents taxa) → v < 65536
place_small image parents taxa n t v e = host_place image parents taxa n t v (plain_refused (host_ruling image parents taxa) n t v e)
