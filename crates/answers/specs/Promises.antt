-- What the functions of this crate promise: the whole line.
-- Assumes nothing.
use Rattle.std.specs.Prelude.{ℕ, ◌≡◌, List}
use Rattle.trees.specs.Answers.{judged_of}
use Rattle.trees.specs.Answers.{Judged}
use Rattle.trees.specs.declared.Refusal.{Refusal}
use Rattle.least.specs.Answers.{least_of}
use Rattle.least.specs.Answers.{LeastAnswer}
use Rattle.dates.specs.Answers.{dating_of}
use Rattle.dates.specs.Answers.{DatingAnswer}
use Rattle.offers.specs.Answers.{offered_of}
use Rattle.offers.specs.Answers.{Offered}
use Rattle.showing.specs.declared.Line.{Line}
use Rattle.answers.specs.Readings.{fine_line, refused_line, line_of, sound_line, counts_line, offer_line, dated_line}

abbrev pub OfRefusalMeets : Refusal → Line → Type 0
OfRefusalMeets r l = l ≡ refused_line r.number r.tree r.place

abbrev pub FineMeets : ℕ → List ℕ → Line → Type 0
FineMeets count numbers l = l ≡ fine_line count numbers

abbrev pub OfJudgedMeets : Judged → Line → Type 0
OfJudgedMeets r l = l ≡ line_of sound_line (judged_of r)

abbrev pub OfLeastMeets : LeastAnswer → Line → Type 0
OfLeastMeets r l = l ≡ line_of counts_line (least_of r)

abbrev pub OfOfferedMeets : Offered → Line → Type 0
OfOfferedMeets r l = l ≡ line_of offer_line (offered_of r)

abbrev pub OfDatingMeets : DatingAnswer → Line → Type 0
OfDatingMeets r l = l ≡ line_of dated_line (dating_of r)
