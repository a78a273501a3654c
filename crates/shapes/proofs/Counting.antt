-- Counting children in one pass: after i nodes, each node's count is that of its children among them. Assumes nothing.
use Prim.Native.Nat.{ℕ, ◌+◌, ◌≤◌, ◌<◌}
use native.Mathlib.Omega.{arith}
use native.Mathlib.Decide.{ℕ_discrete}
use mathlib.Core.Path.{◌≡◌, refl, sym, ap, ◌∙◌}
use mathlib.Core.List.{List}
use lib.ListN.{length, get_or, set, length-set, get_or-replicate}
use lib.Seq.{get_or-set_same, get_or-set_other}
use lib.Dec.{eqb}
use borrow.Author.Tests.{eq-eqb, ne_eqb}
use Rattle.trees.specs.Lists.{range, keep_if, one}
use Rattle.trees.specs.Trees.{up, nodes, kids}
use Rattle.trees.proofs.Lists.{keep_more}
use Rattle.trees.proofs.Lines.{up_at}
use Rattle.shapes.specs.Counts.{ChildCounts, Zeros}

-- how many of the first i nodes are children of g
abbrev pub kids_to : List ℕ → ℕ → ℕ → ℕ
kids_to par g i = length (keep_if (λ j. eqb (up par j) g) (range 0 i))

pub record Counting (par : List ℕ) (i : ℕ) (counts : List ℕ) : Type 0 where
  pub room : length par ≤ length counts
  pub count : (g : ℕ) → g < length par → get_or counts g 0 ≡ kids_to par g i
  pub low : (g : ℕ) → g < length par → get_or counts g 0 ≤ i

pub counting_start : (par counts : List ℕ) → Zeros par counts → Counting par 0 counts
unfolding keep_if range
counting_start par counts Z =
    let room : length par ≤ length counts = Z.room in
    let blank : (g : ℕ) → g < length par → get_or counts g 0 ≡ 0 = λ g h. ap (λ l. get_or l g 0) Z.zero ∙ get_or-replicate {A = ℕ} (length counts) g 0 0 (omega arith) in
    record { room = room; count = blank; low = λ g h. omega (arith, blank g h) }

module _ {par : List ℕ} (i : ℕ) (counts : List ℕ) (b : i < length par) (C : Counting par i counts) where
  abbrev u : ℕ
  u = get_or par i 0

  -- a child of u is counted
  pub counting_turn : u < length par → Counting par (i + 1) (set counts u (get_or counts u 0 + 1))
  unfolding one
  counting_turn ul =
      let v = get_or counts u 0 + 1 in
      let room : length par ≤ length counts = C.room in
      let e = up_at par i b in
      record {
        room = omega (arith, length-set counts u v);
        count = λ g h. elim (ℕ_discrete g u) [
          | yes z ↦ rw (z, get_or-set_same counts u v 0 (omega arith), C.count u ul, keep_more (λ j. eqb (up par j) u) i, e, eq-eqb u u refl)
          | no z ↦ get_or-set_other counts u g v 0 z ∙ C.count g h ∙ sym (keep_more (λ j. eqb (up par j) g) i ∙ rw (e, ne_eqb u g (λ q. z (sym q))) (omega arith))
        ];
        low = λ g h. elim (ℕ_discrete g u) [
          | yes z ↦ rw (z, get_or-set_same counts u v 0 (omega arith)) (omega (arith, C.low u ul))
          | no z ↦ omega (arith, get_or-set_other counts u g v 0 z, C.low g h)
        ];
      }

  -- an entry that is no node is nobody's child
  pub counting_skip : length par ≤ u → Counting par (i + 1) counts
  unfolding one
  counting_skip o =
      record {
        room = C.room;
        count = λ g h. C.count g h ∙ sym (keep_more (λ j. eqb (up par j) g) i ∙ rw (up_at par i b, ne_eqb u g (omega arith)) (omega arith));
        low = λ g h. omega (arith, C.low g h);
      }

pub counting_end : {par : List ℕ} (i : ℕ) (counts : List ℕ) → i ≡ length par → Counting par i counts → ChildCounts par counts
unfolding kids nodes
counting_end i counts e C = record { room = C.room; count = λ g h. rw e at (C.count g h) }
