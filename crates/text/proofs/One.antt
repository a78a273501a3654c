-- One answer only: what `history_text` answers and leaves is fixed by its contract.
--   history_text_one : any two results that meet it are equal
--   history_zero     : the answer is 0 exactly if the buffer is too short
--   history_whole    : 24,598 bytes are always enough
-- Assumes nothing.
use Prim.Native.Nat.{ℕ, ◌≤◌, ◌<◌}
use native.Mathlib.Omega.{arith}
use native.Mathlib.Decide.{dec_lt}
use mathlib.Core.Path.{◌≡◌, sym, ap}
use mathlib.Core.Logic.{◌↔◌}
use mathlib.Core.List.{List}
use lib.ListN.{length}
use borrow.Author.Tests.{le-leb}
use Rattle.trees.specs.One.{Single}
use Rattle.trees.specs.Lists.{pick}
use Rattle.trees.specs.Lent.{replaced}
use Rattle.printing.specs.Printing.{printed}
use Rattle.printing.specs.Putting.{outcome}
use Rattle.printing.proofs.Putting.{outcome_short}
use Rattle.printing.proofs.One.{put_one}
use Rattle.text.specs.Promises.{HistoryTextMeets}
use Rattle.text.proofs.Printed.{printed_some, printed_fits}

module _ (text old : List ℕ) where
  pub history_text_one : Single (λ (r : ℕ × List ℕ). HistoryTextMeets text old r.0 r.1)
  history_text_one = put_one (printed text) old

  -- there is room for everything
  whole : length (printed text) ≤ length old → outcome (printed text) old ≡ record { written = length (printed text); out = replaced (printed text) old }
  unfolding outcome pick
  whole h = rw (le-leb (length (printed text)) (length old) h)

  pub history_zero : ((outcome (printed text) old).written ≡ 0) ↔ (length old < length (printed text))
  history_zero = (
    (λ e. elim (dec_lt (length old) (length (printed text))) [
      | yes h ↦ h
      | no h ↦ absurd (omega (arith, e, ap (λ o. o.written) (whole (omega arith)), printed_some text))
    ]),
    (λ h. sym (ap (λ o. o.written) (outcome_short (printed text) old h))),
  )

  pub history_whole : 24598 ≤ length old → outcome (printed text) old ≡ record { written = length (printed text); out = replaced (printed text) old }
  history_whole h = whole (omega (arith, printed_fits text))
