-- One answer only: any two results that meet a contract of this crate are equal. Assumes nothing.
use Prim.Native.Nat.{ℕ}
use mathlib.Core.List.{List}
use Rattle.trees.specs.One.{Single}
use Rattle.trees.specs.Answers.{judged_of}
use Rattle.trees.specs.Answers.{Judged}
use Rattle.trees.specs.declared.Refusal.{Refusal}
use Rattle.trees.proofs.One.{single_value}
use Rattle.least.specs.Answers.{least_of}
use Rattle.least.specs.Answers.{LeastAnswer}
use Rattle.dates.specs.Answers.{dating_of}
use Rattle.dates.specs.Answers.{DatingAnswer}
use Rattle.offers.specs.Answers.{offered_of}
use Rattle.offers.specs.Answers.{Offered}
use Rattle.answers.specs.Readings.{fine_line, refused_line, line_of, sound_line, counts_line, offer_line, dated_line}
use Rattle.answers.specs.Promises.{OfRefusalMeets, FineMeets, OfJudgedMeets, OfLeastMeets, OfOfferedMeets, OfDatingMeets}

pub of_refusal_one : (r : Refusal) → Single (OfRefusalMeets r)
of_refusal_one r = single_value (refused_line r.number r.tree r.place)

pub fine_one : (count : ℕ) (numbers : List ℕ) → Single (FineMeets count numbers)
fine_one count numbers = single_value (fine_line count numbers)

pub of_judged_one : (r : Judged) → Single (OfJudgedMeets r)
of_judged_one r = single_value (line_of sound_line (judged_of r))

pub of_least_one : (r : LeastAnswer) → Single (OfLeastMeets r)
of_least_one r = single_value (line_of counts_line (least_of r))

pub of_offered_one : (r : Offered) → Single (OfOfferedMeets r)
of_offered_one r = single_value (line_of offer_line (offered_of r))

pub of_dating_one : (r : DatingAnswer) → Single (OfDatingMeets r)
of_dating_one r = single_value (line_of dated_line (dating_of r))
