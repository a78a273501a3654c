-- One answer only: any two results that meet a contract of this crate are equal. Assumes nothing.
use Prim.Native.Nat.{ℕ}
use mathlib.Core.Path.{◌≡◌, ap, sym, ◌∙◌}
use mathlib.Core.List.{List}
use Rattle.trees.specs.One.{Single}
use Rattle.trees.specs.Tables.{Pair}
use Rattle.trees.proofs.One.{single_view}
use Rattle.histories.specs.Histories.{told}
use Rattle.counts.specs.Tallies.{Totals, tallied_of, history_tally}
use Rattle.counts.specs.Promises.{AddUpMeets, CountHistoryMeets}
use Rattle.counts.specs.Adding.{Addable, Added}
use Rattle.trees.specs.declared.GeneNode.{GeneNode}
use Rattle.counts.specs.declared.Tally.{Tally}

tally_one : (a b : Tally) → tallied_of a ≡ tallied_of b → a ≡ b
tally_one a b e = ap (λ (c : Totals). record { duplications = c.duplications; losses = c.losses; speciations = c.speciations; climbs = c.climbs }) e

pub count_history_one : (w : Pair) (places labels : List ℕ) → Single (CountHistoryMeets w places labels)
count_history_one w places labels = single_view tallied_of tally_one (history_tally w (told places labels))

-- of calls that answer what s says
added_one : (labels : List ℕ) (s : ℕ → ℕ) → Single (Added labels s)
added_one labels s a b p q =
    tally_one a b (rw (p.duplications ∙ sym q.duplications, p.losses ∙ sym q.losses, p.speciations ∙ sym q.speciations, p.climbs ∙ sym q.climbs))

pub add_up_one : (pre : GeneNode → Type 0) (post : GeneNode → ℕ → Type 0) (labels : List ℕ) (s : ℕ → ℕ) → Addable pre post labels s → Single (AddUpMeets pre post labels)
add_up_one pre post labels s h a b p q = added_one labels s a b (p s h) (q s h)
