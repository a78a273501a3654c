-- All nodes are listed: the positions are numbers under which parents come first. Assumes nothing.
use Prim.Native.Nat.{ℕ, ◌≤◌, ◌<◌}
use native.Mathlib.Omega.{arith}
use native.Mathlib.Decide.{dec_lt}
use mathlib.Core.Path.{◌≡◌, sym, ap, ◌∙◌}
use mathlib.Core.List.{List}
use lib.ListN.{length, get_or, take, replicate, length-replicate, get_or-replicate}
use lib.Seq.{length-take-le, get_or-take}
use borrow.Author.Tests.{ne_eqb}
use Rattle.trees.specs.Lists.{total, one}
use Rattle.trees.specs.Trees.{none, up, nodes}
use Rattle.trees.specs.Renumber.{Renumbered}
use Rattle.trees.proofs.Lists.{total_cong, total_zero, total_ones}
use Rattle.trees.proofs.Kids.{node_has}
use Rattle.trees.proofs.Lines.{up_at}
use Rattle.roots.specs.Ways.{Entries}
use Rattle.orders.specs.Listing.{Has, spot_over_lem, has_one, Listing}
use Rattle.orders.specs.Promises.{Orderable, Ordered}
use Rattle.orders.proofs.Lists.{over_in, over_out}

-- ---- none is listed

none_listed : (par spots : List ℕ) → ((x : ℕ) → x < length par → get_or spots x 0 ≡ none) → total (has_one spots) (nodes par) ≡ 0
unfolding one
none_listed par spots f = total_cong (has_one spots) (λ y. 0) (nodes par) (λ y t. rw (f y (node_has par t))) ∙ total_zero (nodes par)

pub listing_start : {par spots copy way : List ℕ} → Orderable par spots copy way → Listing par 0 spots copy
listing_start {par} {spots} O =
    record {
      entries = O.entries;
      spots_size = O.spots_size;
      copy_size = O.copy_size;
      count = none_listed par spots O.blank;
      low = λ x h a. absurd (a (O.blank x h));
      each = λ k l. absurd (omega arith);
      one = λ x y h l a e. absurd (a (O.blank x h));
      over = λ x h a u. absurd (a (O.blank x h));
      copied = λ x h a. absurd (a (O.blank x h));
      reach = λ x h a. absurd (a (O.blank x h));
    }

-- ---- all are

module _ {par spots copy : List ℕ} {c : ℕ} (L : Listing par c spots copy) (all : (x : ℕ) → x < length par → Has spots x) where
  full : c ≡ length par
  unfolding nodes one
  full =
      sym L.count
      ∙ total_cong (has_one spots) (λ y. 1) (nodes par) (λ y t. rw (ne_eqb (get_or spots y 0) none (all y (node_has par t))))
      ∙ total_ones 0 (length par)

  abbrev node_at : (k : ℕ) → Dec (k < c) → ℕ
  node_at k (yes l) = (L.each k l).0
  node_at k (no n) = 0

  abbrev back : ℕ → ℕ
  back k = node_at k (dec_lt k c)

  back_is : (k : ℕ) (d : Dec (k < c)) → k < c → (node_at k d < length par) × (get_or spots (node_at k d) 0 ≡ k)
  back_is k (yes l) h = ((L.each k l).1, (L.each k l).2)
  back_is k (no n) h = absurd (n h)

  spot_in : (x : ℕ) → x < length par → get_or spots x 0 < length par
  spot_in x h = omega (arith, full, L.low x h (all x h))

  -- the entry of copy at a node's position
  copy_at : (x : ℕ) → x < length par → up copy (get_or spots x 0) ≡ spot_over_lem par spots x
  copy_at x h = up_at copy (get_or spots x 0) (omega (arith, L.copy_size, spot_in x h)) ∙ L.copied x h (all x h)

  same : Renumbered par copy (λ x. get_or spots x 0) back
  same =
      record {
        size = L.copy_size;
        numbers = record {
          there = spot_in;
          back = λ k h. (back_is k (dec_lt k c) (omega (arith, full))).0;
          there_back = λ k h. (back_is k (dec_lt k c) (omega (arith, full))).1;
          back_there = λ x h.
              let k = get_or spots x 0 in
              let b = back_is k (dec_lt k c) (omega (arith, full, spot_in x h)) in
              L.one (back k) x b.0 h (all (back k) b.0) b.1;
        };
        parents = λ x h u. copy_at x h ∙ over_in par spots x u;
        tops = λ x h u. copy_at x h ∙ over_out par spots x u;
      }

  -- the first position is the root's
  at_zero : (x : ℕ) → x < length par → get_or spots x 0 ≡ 0 → length par ≤ up par x
  at_zero x h e = elim (dec_lt (up par x) (length par)) [ yes u ↦ absurd (omega (arith, L.over x h (all x h) u)) | no u ↦ omega arith ]

  pub all_ordered : 1 ≤ length par → Ordered par spots copy
  all_ordered some =
      let z = back_is 0 (dec_lt 0 c) (omega (arith, full)) in
      let o = at_zero (back 0) z.0 z.1 in
      record {
        back = back;
        same = same;
        first = record {
          top = ap (up copy) (sym z.1) ∙ copy_at (back 0) z.0 ∙ over_out par spots (back 0) o;
          order = λ i a h.
              let b = back_is i (dec_lt i c) (omega (arith, full, L.copy_size)) in
              let x = back i in
              elim (dec_lt (up par x) (length par)) [
                | yes u ↦ omega (arith, ap (up copy) (sym b.1) ∙ copy_at x b.0 ∙ over_in par spots x u, L.over x b.0 (all x b.0) u, b.1)
                | no u ↦ absurd (omega (arith, b.1, z.1, ap (λ m. get_or spots m 0) (L.entries.single x (back 0) b.0 z.0 (omega arith) o)))
              ];
        };
      }

-- the first parts of three tables of 2,047 entries, of which the first has none but 65,535
pub fresh_orderable : {par : List ℕ} → 1 ≤ length par → Entries par → (copy way : List ℕ) → length copy ≡ 2047 → length way ≡ 2047
    → Orderable par (take (length par) (replicate 2047 65535)) (take (length par) copy) (take (length par) way)
fresh_orderable {par} some E copy way c w =
    let n = length par in
    let few : n ≤ 2047 = E.few in
    let spots : List ℕ = replicate 2047 65535 in
    let size : length spots ≡ 2047 = length-replicate {A = ℕ} 2047 65535 in
    record {
      some = some;
      entries = E;
      spots_size = length-take-le n spots (omega (arith, size));
      copy_size = length-take-le n copy (omega arith);
      way_size = length-take-le n way (omega arith);
      blank = λ x h. get_or-take n spots x 0 h ∙ get_or-replicate {A = ℕ} 2047 x 65535 0 (omega arith);
    }
