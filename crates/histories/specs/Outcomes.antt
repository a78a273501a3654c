-- What the call of the least history answers and leaves.
--   Outcome        == an answer with what both lent tables hold after the call
--   least_outcome w places labels dw lw == the outcome for the trees w, two lent tables and two weights: "Success writes the first q
--                     entries .. and nothing after them"; "A refusal leaves lent memory .. unchanged"
-- Assumes nothing.
use Rattle.std.specs.Prelude.{ℕ, List}
use Rattle.trees.specs.Tables.{Pair}
use Rattle.trees.specs.Rulings.{Ruling}
use Rattle.trees.specs.Lent.{on_accepted}
use Rattle.histories.specs.Histories.{least_places, least_labels}
use Rattle.histories.specs.Rules.{Counts, least_ruling}

pub record Outcome : Type 0 where
  pub answer : Ruling Counts
  pub places : List ℕ
  pub labels : List ℕ

unfoldable pub least_outcome : Pair → List ℕ → List ℕ → ℕ → ℕ → Outcome
least_outcome w places labels dw lw =
    record {
      answer = least_ruling w places labels dw lw;
      places = on_accepted (least_ruling w places labels dw lw) (least_places w) places;
      labels = on_accepted (least_ruling w places labels dw lw) (least_labels w) labels;
    }
