-- Counting children with two bits a node: after i nodes, each node's two bits are the number of its children among them. Assumes
-- nothing.
use Prim.Native.Nat.{ℕ, ◌+◌, ◌≤◌, ◌<◌}
use native.Mathlib.Omega.{arith}
use native.Mathlib.Decide.{ℕ_discrete}
use mathlib.Core.Path.{◌≡◌, refl, sym, ◌∙◌}
use mathlib.Core.Logic.{inl, inr}
use mathlib.Core.List.{List}
use lib.ListN.{length, get_or}
use lib.Dec.{T, eqb}
use borrow.Author.Tests.{eq-eqb, ne_eqb}
use mir.Val.{bool_byte}
use Rattle.trees.specs.Lists.{range, keep_if, one}
use Rattle.trees.specs.Trees.{up, nodes, kids}
use Rattle.trees.specs.Tables.{taxon}
use Rattle.trees.specs.Rules.{sized}
use Rattle.trees.proofs.Bools.{test}
use Rattle.trees.proofs.Lists.{keep_more}
use Rattle.trees.proofs.Lines.{up_at}
use Rattle.trees.proofs.Soundness.{sized_is}
use Rattle.shapes.specs.Counts.{wanted_count}
use Rattle.shapes.proofs.Counting.{kids_to}
use Rattle.marks.specs.Bits.{two_at_lem, Counted, Blank}
use Rattle.marks.proofs.Digits.{blank_at}
use Rattle.bits.specs.Children.{Childed, Shapely}

module _ {par : List ℕ} (few : length par ≤ 2047) where
  pub childed_start : (c : List ℕ) → Blank c → Childed par 0 c
  unfolding keep_if range
  childed_start c b = record { size = b.size; count = λ g h. blank_at b g (omega arith) }

  pub childed_turn : (i : ℕ) (c d : List ℕ) → i < length par → get_or par i 0 < length par → length d ≡ 512 → Counted c (get_or par i 0) d → Childed par i c → Childed par (i + 1) d
  unfolding one
  childed_turn i c d b l size N C =
      let u = get_or par i 0 in
      let e = up_at par i b in
      record {
        size = size;
        count = λ g h. elim (ℕ_discrete g u) [
          | yes z ↦ rw (z, N.here, C.count u l, keep_more (λ j. eqb (up par j) u) i, e, eq-eqb u u refl)
          | no z ↦ N.there g z ∙ C.count g h ∙ sym (keep_more (λ j. eqb (up par j) g) i ∙ rw (e, ne_eqb u g (λ q. z (sym q))) (omega arith))
        ];
      }

  -- an entry that is no node is nobody's child
  pub childed_skip : (i : ℕ) (c : List ℕ) → i < length par → length par ≤ get_or par i 0 → Childed par i c → Childed par (i + 1) c
  unfolding one
  childed_skip i c b o C =
      record {
        size = C.size;
        count = λ g h. C.count g h ∙ sym (keep_more (λ j. eqb (up par j) g) i ∙ rw (up_at par i b, ne_eqb (get_or par i 0) g (omega arith)) (omega arith));
      }

  pub childed_shapely : (tax c : List ℕ) → T (sized par tax) → Childed par (length par) c → ((k : ℕ) → k < length tax → two_at_lem c k ≡ wanted_count (taxon tax k)) → Shapely par tax
  unfolding kids nodes
  childed_shapely tax c z C f = record { wanted = λ i h. let ev = (sized_is par tax z).even in sym (C.count i h) ∙ f i (omega arith) }

-- a parent read in a scan
pub scan_more : (par : List ℕ) (g i n r : ℕ) → i < length par → r ≡ bool_byte (eqb (get_or par i 0) g) → (n ≤ i) × (n ≡ kids_to par g i)
    → (n + r ≤ i + 1) × (n + r ≡ kids_to par g (i + 1))
unfolding one
scan_more par g i n r h e k =
    let e' : r ≡ bool_byte (eqb (up par i) g) = rw (up_at par i h) e in
    let more = keep_more (λ j. eqb (up par j) g) i in
    elim (test (eqb (up par i) g)) [
      | inl t ↦ let q : r ≡ 1 = rw t at e' in (omega (arith, q, k.0), omega (arith, q, k.1, rw t at more))
      | inr t ↦ let q : r ≡ 0 = rw t at e' in (omega (arith, q, k.0), omega (arith, q, k.1, rw t at more))
    ]
