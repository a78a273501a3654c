-- A species table put in order, and the places with it: what holds of the copy holds of the table. Assumes nothing.
use Prim.Native.Nat.{ℕ, ◌+◌, ◌≤◌, ◌<◌}
use native.Mathlib.Omega.{arith}
use native.Mathlib.Decide.{ℕ_discrete}
use mathlib.Core.Path.{◌≡◌, sym, ◌∙◌}
use mathlib.Core.List.{List, ◌++◌}
use lib.ListN.{length, get_or, set, take, drop, replicate, length-set, length-replicate, get_or-replicate, length-append, length-drop}
use lib.Seq.{get_or-set_same, get_or-set_other, length-take-le, take-append_seam}
use Rattle.std.specs.Prelude.{Option, Some, None}
use Rattle.trees.specs.Lists.{lowest}
use Rattle.trees.specs.Trees.{up, kid}
use Rattle.trees.specs.Rules.{reaching}
use Rattle.trees.specs.Sound.{SoundTree}
use Rattle.trees.specs.Renumber.{Renumbered}
use Rattle.trees.proofs.Lists.{lowest_none}
use Rattle.trees.proofs.Kids.{kid_first, kid_second}
use Rattle.trees.proofs.Reach.{reaching_is}
use Rattle.trees.proofs.Renumber.{renumbered_treelike, treelike_back, moved_back, sound_fits}
use Rattle.trees.proofs.Sound.{below_root}
use Rattle.trees.proofs.Soundness.{is_root_top}
use Rattle.histories.specs.Legal.{Apart}
use Rattle.histories.proofs.Renumber.{moved_apart}
use Rattle.roots.proofs.Ways.{sound_entries}
use Rattle.orders.specs.Promises.{OrderMeets}
use Rattle.orders.proofs.Orders.{fresh_orderable}
use Rattle.sides.specs.Promises.{Nestable}
use Rattle.nesting.specs.Runs.{Unshared, Laid}
use Rattle.nesting.specs.Codes.{Codable, Nests}
use Rattle.nesting.specs.Moving.{Moved, Placeable, Put, Copied}

-- one place more has its position
pub moved_more : (spots pl mv : List ℕ) (g : ℕ) → g < length mv → ((j : ℕ) → j < g → get_or mv j 0 ≡ get_or spots (get_or pl j 0) 0)
    → (j : ℕ) → j < g + 1 → get_or (set mv g (get_or spots (get_or pl g 0) 0)) j 0 ≡ get_or spots (get_or pl j 0) 0
moved_more spots pl mv g h f j l =
    let v = get_or spots (get_or pl g 0) 0 in
    elim (ℕ_discrete j g) [ yes e ↦ rw e (get_or-set_same mv g v 0 h) | no n ↦ get_or-set_other mv g j v 0 n ∙ f j (omega arith) ]

-- in a tree no node is lost
none_lost : {par tax : List ℕ} → SoundTree par tax → lowest (reaching par) (length par) ≡ length par
none_lost {par} S = lowest_none (reaching par) (length par) (λ x h. (reaching_is par (sound_fits S) x).1 (S.root, is_root_top par S.root S.root_up, below_root S x h))

pub put : {par pl copy mv tax spots : List ℕ} (r : Option ℕ) → SoundTree par tax → OrderMeets par spots copy r → Moved spots pl mv → Put par pl copy mv
put (Some x) S O M = absurd (omega (arith, O.answer.0, O.answer.1, none_lost S))
put {spots = spots} None S O M = record { spots = spots; ordered = O.ordered; moved = M }

module _ {sp gp pl lb copy mv : List ℕ} (Q : Nestable sp gp pl lb) (P : Put sp pl copy mv) (m : length mv ≡ length gp) where
  abbrev σ : ℕ → ℕ
  σ x = get_or P.spots x 0

  abbrev N : Renumbered sp copy σ P.ordered.back
  N = P.ordered.same

  placed_at : (g : ℕ) → g < length gp → get_or mv g 0 ≡ σ (get_or pl g 0)
  placed_at g l = P.moved g (omega arith)

  pub moved_nestable : Nestable copy gp mv lb
  moved_nestable =
      record {
        species = renumbered_treelike Q.species N;
        genes = Q.genes;
        places_room = omega arith;
        labels_room = Q.labels_room;
        placed = λ g l. omega (arith, N.size, placed_at g l, N.numbers.there (get_or pl g 0) (Q.placed g l));
        kinds = Q.kinds;
      }

  -- back to the table's own numbers
  apart_back : (a x y : ℕ) → a < length sp → x < length sp → y < length sp → Apart copy (σ a) (σ x) (σ y) → Apart sp a x y
  apart_back a x y la lx ly A =
      let B = moved_apart (renumbered_treelike Q.species N).1 (treelike_back Q.species N) (σ a) (σ x) (σ y) (omega (arith, N.size, N.numbers.there a la)) A in
      rw (N.numbers.back_there a la, N.numbers.back_there x lx, N.numbers.back_there y ly) at B

  pub nests_back : Nests copy gp mv lb → Nests sp gp pl lb
  nests_back X =
      record {
        descent = λ c l u. moved_back N (sound_fits Q.species.1) (rw (placed_at (up gp c) u, placed_at c l) at (X.descent c l u)) (Q.placed (up gp c) u) (Q.placed c l);
        sides = λ g l e.
            let i = Q.kinds g l e in
            let a = (kid_first gp g i).0 in
            let b = (kid_second gp g i).0 in
            apart_back (get_or pl g 0) (get_or pl (kid gp g 0) 0) (get_or pl (kid gp g 1) 0) (Q.placed g l) (Q.placed (kid gp g 0) a) (Q.placed (kid gp g 1) b)
            (rw (placed_at g l, placed_at (kid gp g 0) a, placed_at (kid gp g 1) b) at (X.sides g l e));
      }

-- ---- the tables of the test

module _ {copy gp mv lb start run turn : List ℕ} {p : ℕ} (C : Copied copy p gp mv lb start run turn) where
  few : length (take p copy) ≤ 2047
  few = C.nestable.species.1.few

  pub copied_unshared : length start ≡ 2047 → length run ≡ 2047 → length turn ≡ 2047 → Unshared (take p copy) (set start 0 0) run turn
  copied_unshared s r t =
      let some : 1 ≤ length (take p copy) = C.nestable.species.1.some in
      record {
        tree = C.nestable.species;
        first = C.first;
        off_room = omega (arith, few, length-set start 0 0);
        run_room = omega (arith, few);
        turn_room = omega (arith, few);
        top = get_or-set_same start 0 0 0 (omega arith);
        ones = λ j l. C.ones j (omega (arith, few));
      }

  pub copied_codable : {start' run' turn' : List ℕ} (sides : List ℕ) → length sides ≡ 2047 → ((k : ℕ) → k < 2047 → get_or sides k 0 ≡ 0) → Laid (take p copy) start' run' turn'
      → Codable gp mv start' run' turn' sides × (length gp ≤ length lb)
  copied_codable sides s z L =
      let Q = C.nestable in
      let g2047 : length gp ≤ 2047 = Q.genes.1.few in (
        record {
          genes = Q.genes;
          room = Q.places_room;
          started = λ g l. omega (arith, Q.placed g l, L.start_room);
          running = λ g l. omega (arith, Q.placed g l, L.run_room);
          turning = λ g l. omega (arith, Q.placed g l, L.turn_room);
          sides_room = omega arith;
          zeros = λ g l. z g (omega arith);
        },
        Q.labels_room,
      )

-- the tables at first: parts of fresh ones
module _ {sp gp pl lb : List ℕ} (Q : Nestable sp gp pl lb) where
  pub fresh_placeable : Placeable sp pl (take (length sp) (replicate 2047 0)) (take (length gp) (replicate 2047 0)) (take (length sp) (replicate 2047 65535)) (take (length sp) (replicate 2047 0))
  fresh_placeable =
      let zeros : length (replicate {A = ℕ} 2047 0) ≡ 2047 = length-replicate {A = ℕ} 2047 0 in
      let blank : length (replicate {A = ℕ} 2047 65535) ≡ 2047 = length-replicate {A = ℕ} 2047 65535 in
      let S = Q.species.1 in
      let s2047 : length sp ≤ 2047 = S.few in
      let g2047 : length gp ≤ 2047 = Q.genes.1.few in
      let m : length (take (length gp) (replicate {A = ℕ} 2047 0)) ≡ length gp = length-take-le (length gp) (replicate 2047 0) (omega arith) in
      let s : length (take (length sp) (replicate {A = ℕ} 2047 65535)) ≡ length sp = length-take-le (length sp) (replicate 2047 65535) (omega arith) in
      record {
        tree = Q.species;
        orderable = fresh_orderable S.some (sound_entries S) (replicate 2047 0) (replicate 2047 0) zeros zeros;
        movable = record { few = omega arith; room = omega (arith, Q.places_room); placed = λ g l. omega (arith, Q.placed g (omega arith)) };
      }

  -- and once the copy is in order
  pub put_copied : {part moved : List ℕ} → Put sp pl part moved → length moved ≡ length gp
      → (copy mv start turn : List ℕ) → take (length sp) copy ≡ part → mv ≡ moved → length copy ≡ 2047
      → Copied copy (length sp) gp mv lb start (replicate 2047 1) turn
  put_copied {part} P m copy mv start turn e f c =
      record {
        size = c;
        part = rw e P.ordered.same.size;
        nestable = rw (e, f) (moved_nestable Q P m);
        first = rw e P.ordered.first;
        ones = λ j l. get_or-replicate {A = ℕ} 2047 j 1 0 l;
      }

-- ---- a table of which a part was lent

module _ (new l : List ℕ) (n m : ℕ) (s : length new ≡ length (take n l)) (e : length l ≡ m) (h : n ≤ m) where
  pub part_size : length new ≡ n
  part_size = s ∙ length-take-le n l (omega arith)

  pub part_back : m ≡ length (new ++ drop n l)
  part_back = sym (length-append new (drop n l) ∙ omega (arith, part_size, length-drop n l))

  pub part_take : take n (new ++ drop n l) ≡ new
  part_take = rw (← part_size) (take-append_seam new (drop (length new) l))

-- below the length of a table that kept it
pub in_kept : (a b : List ℕ) {x : ℕ} → length a ≡ length b → x < length b → x < length a
in_kept a b e h = rw e h
