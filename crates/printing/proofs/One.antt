-- One answer only: any two results that meet a contract of this crate are equal. Assumes nothing.
use Prim.Native.Nat.{ℕ}
use mathlib.Core.Path.{◌≡◌, sym, ap, ◌∙◌}
use mathlib.Core.List.{List, ◌++◌}
use Rattle.trees.specs.One.{Single}
use Rattle.trees.proofs.One.{both}
use Rattle.trees.specs.declared.Refusal.{Refusal}
use Rattle.least.specs.Answers.{counts_of}
use Rattle.least.specs.declared.LeastCounts.{LeastCounts}
use Rattle.printing.specs.Printing.{refused_line, counts_line}
use Rattle.printing.specs.Putting.{told_lines, Outcome, outcome}
use Rattle.printing.specs.Promises.{PutNumberMeets, WriteRefusalMeets, WriteHistoryMeets}

-- what is answered and what the lent buffer holds, for these bytes
pub put_one : (bytes old : List ℕ) → Single (λ (r : ℕ × List ℕ). ◌≡◌ {A = Outcome} (record { written = r.0; out = r.1 }) (outcome bytes old))
put_one bytes old a b p q =
    let e = p ∙ sym q in
    both a b (ap (λ (o : Outcome). o.written) e) (ap (λ (o : Outcome). o.out) e)

pub put_number_one : (n end at : ℕ) (old : List ℕ) → Single (λ (r : ℕ × List ℕ). PutNumberMeets n end at old r.0 r.1)
put_number_one n end at old a b p q = both a b (p.place ∙ sym q.place) (p.content ∙ sym q.content)

pub write_refusal_one : (refusal : Refusal) (old : List ℕ) → Single (λ (r : ℕ × List ℕ). WriteRefusalMeets refusal old r.0 r.1)
write_refusal_one refusal old = put_one (refused_line refusal.number refusal.tree refusal.place) old

pub write_history_one : (places labels : List ℕ) (counts : LeastCounts) (old : List ℕ) → Single (λ (r : ℕ × List ℕ). WriteHistoryMeets places labels counts old r.0 r.1)
write_history_one places labels counts old = put_one (told_lines places labels ++ counts_line (counts_of counts)) old
