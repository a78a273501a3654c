-- What the printers measure, ask for and leave in the lent buffer.
--   DigitCount n r             <-> r is how many decimal digits n has, at most 20
--   told_lines places labels   == the lines of the gene nodes that two tables tell
--   LinesSize places r         <-> r is how many bytes they take, whatever the labels, at most 44 for each of 2,047 nodes
--   CountsSize c r             <-> r is how many bytes the line of the counts takes, at most 105
--   LinesRoom places labels out <-> the tables agree in length, and the buffer has room for their lines
--   Printable places labels    <-> the tables agree in length, which is at most 2,047
--   Put at new old out next    <-> out is old with the bytes new from the place `at` on, and `next` is the place behind them
--   Outcome                    == how many bytes are written, and what the buffer holds then
--   outcome new old            == the bytes new at the start of the buffer and the rest as it was; nothing if the buffer is too short
-- Assumes nothing.
use Rattle.std.specs.Prelude.{ℕ, ◌+◌, ◌≤◌, ◌≡◌, List, length, leb}
use Rattle.std.proofs.lemmas.List.Edits.{sets}
use Rattle.trees.specs.Lists.{range, pick}
use Rattle.trees.specs.Lent.{replaced}
use Rattle.histories.specs.Histories.{told}
use Rattle.histories.specs.Rules.{Counts}
use Rattle.numbers.specs.Numbers.{decimal}
use Rattle.printing.specs.Printing.{history_lines, counts_line}

pub record DigitCount (n r : ℕ) : Type 0 where
  pub exact : r ≡ length (decimal n)
  pub few : r ≤ 20

abbrev pub told_lines : List ℕ → List ℕ → List ℕ
told_lines places labels = history_lines (told places labels) (range 0 (length places))

pub record LinesSize (places : List ℕ) (r : ℕ) : Type 0 where
  pub exact : (labels : List ℕ) → r ≡ length (told_lines places labels)
  pub few : r ≤ 90068

pub record CountsSize (c : Counts) (r : ℕ) : Type 0 where
  pub exact : r ≡ length (counts_line c)
  pub few : r ≤ 105

pub record LinesRoom (places labels out : List ℕ) : Type 0 where
  pub even : length labels ≡ length places
  pub room : length (told_lines places labels) ≤ length out

pub record Printable (places labels : List ℕ) : Type 0 where
  pub even : length labels ≡ length places
  pub few : length places ≤ 2047

pub record Put (at : ℕ) (new old out : List ℕ) (next : ℕ) : Type 0 where
  pub content : out ≡ sets old at new
  pub place : next ≡ at + length new

pub record Outcome : Type 0 where
  pub written : ℕ
  pub out : List ℕ

unfoldable pub outcome : List ℕ → List ℕ → Outcome
outcome new old =
    pick (leb (length new) (length old)) (record { written = length new; out = replaced new old }) (record { written = 0; out = old })
