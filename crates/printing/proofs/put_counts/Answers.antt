-- `printing::put_counts`: five numbers in a row. Assumes nothing.
use Prim.Native.Nat.{ℕ, ◌+◌, ◌≤◌}
use mathlib.Core.List.{List, ◌++◌}
use lib.ListN.{length}
use Rattle.histories.specs.Rules.{Counts}
use Rattle.printing.specs.Printing.{ended, counts_line}
use Rattle.printing.proofs.Putting.{room_less, put_room, put_then}
use Rattle.printing.proofs.put_counts.Goals as goal

-- the line up to each number
abbrev to_1 : Counts → List ℕ
to_1 n = ended n.duplications 32

abbrev to_2 : Counts → List ℕ
to_2 n = to_1 n ++ ended n.losses 32

abbrev to_3 : Counts → List ℕ
to_3 n = to_2 n ++ ended n.speciations 32

abbrev to_4 : Counts → List ℕ
to_4 n = to_3 n ++ ended n.climbs 32

-- there is room for each
module _ (n : Counts) (at : ℕ) (out : List ℕ) (room : at + length (counts_line n) ≤ length out) where
  abbrev Room : List ℕ → Type 0
  Room l = at + length l ≤ length out

  room_5 : Room (to_4 n ++ ended n.cost 10)
  unfolding counts_line
  room_5 = room

  room_4 : Room (to_4 n)
  room_4 = room_less _ (to_4 n) (ended n.cost 10) _ room_5

  room_3 : Room (to_3 n)
  room_3 = room_less _ (to_3 n) (ended n.climbs 32) _ room_4

  room_2 : Room (to_2 n)
  room_2 = room_less _ (to_2 n) (ended n.speciations 32) _ room_3

  room_1 : Room (to_1 n)
  room_1 = room_less _ (to_1 n) (ended n.losses 32) _ room_2

pub put_number-a-requires : goal.put_number-a-requires
put_number-a-requires c = room_1 _ _ _ c.requires

pub put_number-b-requires : goal.put_number-b-requires
put_number-b-requires c = put_room c.put_number-a.ensures _ (room_2 _ _ _ c.requires)

pub put_number-c-requires : goal.put_number-c-requires
put_number-c-requires c = put_room (put_then c.put_number-a.ensures c.put_number-b.ensures) _ (room_3 _ _ _ c.requires)

pub put_number-d-requires : goal.put_number-d-requires
put_number-d-requires c =
    let two = put_then c.put_number-a.ensures c.put_number-b.ensures in
    put_room (put_then two c.put_number-c.ensures) _ (room_4 _ _ _ c.requires)

pub put_number-requires : goal.put_number-requires
put_number-requires c =
    let two = put_then c.put_number-a.ensures c.put_number-b.ensures in
    let three = put_then two c.put_number-c.ensures in
    put_room (put_then three c.put_number-d.ensures) _ (room_5 _ _ _ c.requires)

pub returns : goal.returns
unfolding counts_line
returns c =
    let two = put_then c.put_number-a.ensures c.put_number-b.ensures in
    let three = put_then two c.put_number-c.ensures in
    put_then (put_then three c.put_number-d.ensures) c.put_number.ensures
