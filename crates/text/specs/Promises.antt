-- What the program's text promises.
--   HistoryTextMeets text old r out <-> the exact bytes printed for the text, at the start of the lent buffer, and nothing behind them;
--                                       nothing and 0 if the buffer is too short
-- Assumes nothing.
use Rattle.std.specs.Prelude.{ℕ, ◌≡◌, List}
use Rattle.printing.specs.Printing.{printed}
use Rattle.printing.specs.Putting.{Outcome, outcome}

abbrev pub HistoryTextMeets : List ℕ → List ℕ → ℕ → List ℕ → Type 0
HistoryTextMeets text old r out = ◌≡◌ {A = Outcome} (record { written = r; out = out }) (outcome (printed text) old)
