-- `text::history_text`: the counts are refused, or read and the rest is answered. Assumes nothing.
use Rattle.printing.specs.Printing.{printed}
use Rattle.printing.proofs.Putting.{outcome_of}
use Rattle.text.proofs.Answered.{counts_refused, outcome_counts}
use Rattle.text.proofs.history_text.Goals as goal

pub returns-in-Err : goal.returns-in-Err
returns-in-Err c =
    let e = outcome_of _ {other = printed c.args.text.now} c.write_refusal.ensures (counts_refused _ _ c.in-Err.ensures) in
    record { history_text_meets = e; prefix_len = outcome_counts _ _ _ _ e }

pub returns-in-Ok : goal.returns-in-Ok
returns-in-Ok c =
    record { history_text_meets = c.answer_sized.ensures; prefix_len = outcome_counts _ _ _ _ c.answer_sized.ensures }
