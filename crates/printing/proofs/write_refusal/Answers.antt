-- `printing::write_refusal`: measured, then put. Assumes nothing.
use Prim.Native.Nat.{ℕ, ◌+◌, ◌≤◌}
use native.Mathlib.Omega.{arith}
use mathlib.Core.List.{List, ◌++◌}
use lib.ListN.{length}
use Rattle.numbers.specs.Numbers.{decimal}
use Rattle.printing.specs.Printing.{ended, refused_word, refused_line}
use Rattle.printing.proofs.Lines.{refused_length}
use Rattle.printing.proofs.Putting.{room_less, put_room, put_then, outcome_short, outcome_put}
use Rattle.printing.proofs.write_refusal.Goals as goal

-- there is room for the line up to each number
module _ (n t v : ℕ) (out : List ℕ) where
  abbrev Room : List ℕ → Type 0
  Room l = 0 + length l ≤ length out

  abbrev to_1 : List ℕ
  to_1 = refused_word ++ ended n 32

  abbrev to_2 : List ℕ
  to_2 = to_1 ++ ended t 32

  module _ (room : 11 + length (decimal n) + length (decimal t) + length (decimal v) ≤ length out) where
    room_3 : Room (to_2 ++ ended v 10)
    unfolding refused_line
    room_3 = omega (arith, refused_length n t v)

    room_2 : Room to_2
    room_2 = room_less 0 to_2 (ended v 10) _ room_3

    room_1 : Room to_1
    room_1 = room_less 0 to_1 (ended t 32) _ room_2

pub returns-then-out-size : goal.returns-then-out-size
returns-then-out-size c =
    let r = c.args.refusal in
    outcome_short _ _ (omega (arith, refused_length r.number r.tree r.place, c.if-out-size.true))

pub put_number-b-requires : goal.put_number-b-requires
put_number-b-requires c = put_room c.put_refused-a.ensures _ (room_1 _ c.args.refusal.tree c.args.refusal.place _ (omega arith))

pub put_number-c-requires : goal.put_number-c-requires
put_number-c-requires c = put_room (put_then c.put_refused-a.ensures c.put_number-b.ensures) _ (room_2 _ _ c.args.refusal.place _ (omega arith))

pub put_number-requires : goal.put_number-requires
put_number-requires c =
    let two = put_then (put_then c.put_refused-a.ensures c.put_number-b.ensures) c.put_number-c.ensures in
    put_room two _ (room_3 _ _ _ _ (omega arith))

pub returns : goal.returns
unfolding refused_line
returns c =
    let two = put_then (put_then c.put_refused-a.ensures c.put_number-b.ensures) c.put_number-c.ensures in
    let r = c.args.refusal in
    outcome_put _ _ _ _ (omega (arith, refused_length r.number r.tree r.place)) (put_then two c.put_number.ensures)
