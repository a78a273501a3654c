-- What an answer reads as, in the program `replay`.                                    (docs/REPLAY.md)
--   fine_line k ns     == `ok` and the first k of the numbers
--   refused_line n t v == `refused` and number, tree and place
--   line_of f r        == the line of a ruling, whose accepted value reads as f says
--   sound_line, counts_line, offer_line, dated_line == what the accepted values of the calls over the trees read as
-- A line has room for five numbers. Assumes nothing.
use Rattle.std.specs.Prelude.{ℕ, true, false, List, [], ◌∷◌}
use Rattle.trees.specs.Rulings.{Ruling, accepted, refused, Fine}
use Rattle.histories.specs.Rules.{Counts, OfferCounts}
use Rattle.histories.specs.Dating.{Dated, not_duplication, from, between}
use Rattle.showing.specs.declared.Line.{Line}

abbrev pub fine_line : ℕ → List ℕ → Line
fine_line k ns = record { refused = false; count = k; numbers = ns }

abbrev pub refused_line : ℕ → ℕ → ℕ → Line
refused_line n t v = record { refused = true; count = 3; numbers = n ∷ t ∷ v ∷ 0 ∷ 0 ∷ [] }

abbrev pub line_of : {A : Type 0} → (A → Line) → Ruling A → Line
line_of f (accepted a) = f a
line_of f (refused n t v) = refused_line n t v

abbrev pub sound_line : Fine → Line
sound_line x = fine_line 0 (0 ∷ 0 ∷ 0 ∷ 0 ∷ 0 ∷ [])

abbrev pub counts_line : Counts → Line
counts_line c = fine_line 5 (c.duplications ∷ c.losses ∷ c.speciations ∷ c.climbs ∷ c.cost ∷ [])

abbrev pub offer_line : OfferCounts → Line
offer_line c = fine_line 3 (c.duplications ∷ c.losses ∷ c.speciations ∷ 0 ∷ 0 ∷ [])

abbrev pub dated_line : Dated → Line
dated_line not_duplication = fine_line 1 (0 ∷ 0 ∷ 0 ∷ 0 ∷ 0 ∷ [])
dated_line (from a) = fine_line 2 (1 ∷ a ∷ 0 ∷ 0 ∷ 0 ∷ [])
dated_line (between a b) = fine_line 3 (2 ∷ a ∷ b ∷ 0 ∷ 0 ∷ [])
