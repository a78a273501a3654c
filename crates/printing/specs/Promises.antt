-- What the printers promise: how many bytes are written, and what the lent buffer holds then.
--   PutNumberMeets n end at old r out                <-> the digits of n and the byte `end` from the place `at` on; r is the place behind
--   WriteRefusalMeets refusal old r out              <-> the line of the refusal
--   WriteHistoryMeets places labels counts old r out <-> the lines of the gene nodes, and the line of the counts
-- Assumes nothing.
use Rattle.std.specs.Prelude.{ℕ, ◌≡◌, List, ◌++◌}
use Rattle.trees.specs.declared.Refusal.{Refusal}
use Rattle.least.specs.Answers.{counts_of}
use Rattle.least.specs.declared.LeastCounts.{LeastCounts}
use Rattle.printing.specs.Printing.{ended, counts_line, refused_line}
use Rattle.printing.specs.Putting.{told_lines, Put, Outcome, outcome}

abbrev pub PutNumberMeets : ℕ → ℕ → ℕ → List ℕ → ℕ → List ℕ → Type 0
PutNumberMeets n end at old r out = Put at (ended n end) old out r

abbrev pub WriteRefusalMeets : Refusal → List ℕ → ℕ → List ℕ → Type 0
WriteRefusalMeets refusal old r out = ◌≡◌ {A = Outcome} (record { written = r; out = out }) (outcome (refused_line refusal.number refusal.tree refusal.place) old)

abbrev pub WriteHistoryMeets : List ℕ → List ℕ → LeastCounts → List ℕ → ℕ → List ℕ → Type 0
WriteHistoryMeets places labels counts old r out = ◌≡◌ {A = Outcome} (record { written = r; out = out }) (outcome (told_lines places labels ++ counts_line (counts_of counts)) old)
