-- One answer only: any two results that meet a contract of this crate are equal. Assumes nothing.
use Rattle.std.specs.Prelude.{Ok, Err}
use Prim.Native.Nat.{ℕ}
use mathlib.Core.Path.{◌≡◌, sym, ap, ◌∙◌}
use mathlib.Core.List.{List}
use Rattle.trees.specs.One.{Single}
use Rattle.trees.specs.Tables.{Pair}
use Rattle.trees.proofs.Bools.{clash}
use Rattle.trees.proofs.One.{single_value, three}
use Rattle.trees.proofs.Rulings.{refusal_one}
use Rattle.histories.specs.Rules.{Counts}
use Rattle.histories.specs.Histories.{cost}
use Rattle.histories.specs.Outcomes.{Outcome}
use Rattle.least.specs.Answers.{counts_of, least_of}
use Rattle.least.specs.Promises.{CostMeets, LeastHistoryMeets}
use Rattle.least.specs.declared.LeastCounts.{LeastCounts}
use Rattle.least.specs.Answers.{LeastAnswer}

-- the counts handed back are fixed by the paper's counts
counts_one : (a b : LeastCounts) → counts_of a ≡ counts_of b → a ≡ b
counts_one a b e =
    ap (λ (c : Counts). record { duplications = c.duplications; losses = c.losses; speciations = c.speciations; climbs = c.climbs; cost = c.cost }) e

pub least_one : (a b : LeastAnswer) → least_of a ≡ least_of b → a ≡ b
least_one (Ok a) (Ok b) e = let q : counts_of a ≡ counts_of b = cc in ap Ok (counts_one a b q)
least_one (Ok a) (Err s) e = clash (cc)
least_one (Err r) (Ok b) e = clash (cc)
least_one (Err r) (Err s) e = ap Err (refusal_one r s e)

-- ---- one theorem for each public function

pub cost_one : (dw lw ds ls : ℕ) → Single (CostMeets dw lw ds ls)
cost_one dw lw ds ls = single_value (cost dw lw ds ls)

-- the answer and the two tables
pub least_history_one : (w : Pair) (p l : List ℕ) (dw lw : ℕ) → Single (λ (r : LeastAnswer × List ℕ × List ℕ). LeastHistoryMeets w p l dw lw r.0 r.1 r.2)
least_history_one w p l dw lw a b f g =
    let e = f ∙ sym g in
    three a b (least_one a.0 b.0 (ap (λ (o : Outcome). o.answer) e)) (ap (λ (o : Outcome). o.places) e) (ap (λ (o : Outcome). o.labels) e)
