-- What the answers of the reader and of the least history mean for what is printed. Assumes nothing.
use Rattle.std.specs.Prelude.{Err, Ok}
use Prim.Native.Nat.{ℕ, ◌≤◌, ◌<◌}
use native.Mathlib.Omega.{arith}
use mathlib.Core.Path.{◌≡◌, refl, sym, ap, ◌∙◌}
use mathlib.Core.Logic.{inl, inr}
use mathlib.Core.Bool.{Bool, true, false}
use mathlib.Core.List.{List, [], ◌∷◌, ◌++◌}
use lib.ListN.{length, take, drop, replicate, length-replicate}
use lib.Seq.{length-take-le}
use lib.Dec.{T, leb, le→leb}
use borrow.Author.Tests.{leb-true}
use Rattle.trees.specs.Lists.{range, has, pick}
use Rattle.trees.specs.Rulings.{accepted, Rule, whole, ruling, fine, number_of, tree_of, Passes}
use Rattle.trees.specs.Trees.{nodes}
use Rattle.trees.specs.Tables.{Pair, pair}
use Rattle.trees.specs.Lent.{replaced}
use Rattle.trees.specs.Rules.{pair_rules}
use Rattle.trees.specs.declared.Refusal.{Refusal}
use Rattle.trees.proofs.Bools.{and_both, test, true_T}
use Rattle.trees.proofs.Lists.{has_head, has_tail, range_has}
use Rattle.trees.proofs.Lent.{take_replaced, length_replaced}
use Rattle.trees.proofs.Rulings.{rule_cases, ruling_pass, ruling_fail, ruling_all, ruling_stays}
use Rattle.histories.specs.Histories.{History, told, least, least_places, least_labels}
use Rattle.histories.specs.Rules.{roomy, least_rules, least_counts, least_ruling}
use Rattle.histories.proofs.Tables.{length_places, length_labels, get_or_places, get_or_labels}
use Rattle.least.specs.Answers.{counts_of, least_of}
use Rattle.histories.specs.Outcomes.{least_outcome}
use Rattle.histories.specs.Outcomes as outcomes
use Rattle.least.specs.declared.LeastCounts.{LeastCounts}
use Rattle.least.specs.Answers.{LeastAnswer}
use Rattle.io.specs.Counts.{IsPrefixLen}
use Rattle.numbers.specs.Words.{words}
use Rattle.reading.specs.Reading.{species_count, gene_count, widths, fits, tables, count_rules, text_rules, text_ruling}
use Rattle.reading.specs.Readers.{SizesRead, SizesBy, TablesRead, Ready}
use Rattle.printing.specs.Printing.{history_lines, counts_line, refused_line, report, answered, printed}
use Rattle.printing.specs.Putting.{told_lines, Outcome, outcome}

-- ---- the least history's answer

-- two histories that agree at the nodes have the same lines
lines_same : (h k : History) (gs : List ℕ) → ((g : ℕ) → T (has g gs) → (h.at g ≡ k.at g) × (h.kind g ≡ k.kind g)) → history_lines h gs ≡ history_lines k gs
unfolding history_lines
lines_same h k [] f = refl
lines_same h k (g ∷ gs) f =
    let e = f g (has_head g gs) in
    rw (e.0, e.1, lines_same h k gs (λ x t. f x (has_tail x g gs t)))

-- a rule that passes can be left out at the end
ruling_last : {A : Type 0} (rs : List Rule) (r : Rule) (a : A) → Passes r → ruling (rs ++ r ∷ []) a ≡ ruling rs a
ruling_last [] r a p = ruling_pass r [] a p
ruling_last (s ∷ rs) r a p =
    elim (rule_cases s) [
      | inl q ↦ ruling_pass s (rs ++ r ∷ []) a q ∙ ruling_last rs r a p ∙ sym (ruling_pass s rs a q)
      | inr f ↦ ruling_fail s (rs ++ r ∷ []) a f.0 f.1 ∙ sym (ruling_fail s rs a f.0 f.1)
    ]

-- a lent table of the stack
abbrev zeros : List ℕ
zeros = replicate 2047 0

zeros_size : length zeros ≡ 2047
zeros_size = length-replicate {A = ℕ} 2047 0

module _ (w : Pair) where
  -- with room in both tables, the least history is refused by the trees' own rules alone
  pub roomy_ruling : (places labels : List ℕ) (dw lw : ℕ) → length w.gp ≤ length places → length w.gp ≤ length labels
      → least_ruling w places labels dw lw ≡ ruling (pair_rules w) (least_counts w dw lw)
  unfolding least_ruling least_rules roomy
  roomy_ruling places labels dw lw a b =
      ruling_last (pair_rules w) (whole 7 0 0 (roomy w places labels)) (least_counts w dw lw)
      (and_both (leb (length w.gp) (length places)) (leb (length w.gp) (length labels)) (le→leb (length w.gp) (length places) a) (le→leb (length w.gp) (length labels) b))

  -- its tables tell its lines
  tables_lines : told_lines (least_places w) (least_labels w) ≡ history_lines (least w) (nodes w.gp)
  unfolding nodes
  tables_lines =
      rw (length_places w)
      (lines_same (told (least_places w) (least_labels w)) (least w) (range 0 (length w.gp))
      (λ g t. let l : g < length w.gp = omega (arith, range_has 0 (length w.gp) g t) in (get_or_places w g l, get_or_labels w g l)))

  -- the answer of the call, with places and labels after it
  module _ (few : length w.gp ≤ 2047) (r : LeastAnswer) (places labels : List ℕ)
      (e : ◌≡◌ {A = outcomes.Outcome} (record { answer = least_of r; places = places; labels = labels }) (least_outcome w zeros zeros 1 1)) where
    answer_is : least_of r ≡ ruling (pair_rules w) (least_counts w 1 1)
    unfolding least_outcome
    answer_is = ap (λ o. o.answer) e ∙ roomy_ruling zeros zeros 1 1 (rw zeros_size few) (rw zeros_size few)

    pub answered_refused : (f : Refusal) → r ≡ Err f → answered w ≡ refused_line f.number f.tree f.place
    unfolding answered report
    answered_refused f q = rw (← answer_is, q)

    pub answered_done : (c : LeastCounts) → r ≡ Ok c
        → answered w ≡ told_lines (take (length w.gp) places) (take (length w.gp) labels) ++ counts_line (counts_of c)
    unfolding answered report least_outcome
    answered_done c q =
        let a : least_ruling w zeros zeros 1 1 ≡ accepted (counts_of c) = sym (ap (λ o. o.answer) e) ∙ ap least_of q in
        let P : places ≡ replaced (least_places w) zeros = ap (λ o. o.places) e ∙ rw a in
        let L : labels ≡ replaced (least_labels w) zeros = ap (λ o. o.labels) e ∙ rw a in
        let p : take (length w.gp) places ≡ least_places w = rw (P, ← length_places w) (take_replaced (least_places w) zeros) in
        let l : take (length w.gp) labels ≡ least_labels w = rw (L, ← length_labels w) (take_replaced (least_labels w) zeros) in
        rw (p, l, tables_lines, ← answer_is, q)

-- ---- a text whose counts are refused, and one whose counts are read

pub counts_refused : (text : List ℕ) (f : Refusal) → SizesBy (Err f) text → printed text ≡ refused_line f.number f.tree f.place
unfolding printed report text_ruling text_rules
counts_refused text f e = rw (ruling_stays (count_rules text) _ fine (least_counts (tables text) 1 1) f.number f.tree f.place e)

-- with its tables after they are read

module _ (text : List ℕ) (p q next : ℕ) (R : SizesRead text p q next) (w : Pair) (P : length w.sp ≡ p) (Q : length w.gp ≡ q) (right : Bool) (K : TablesRead text next w right) where
  abbrev rest : Rule
  rest = whole 20 0 0 (fits (widths (species_count text) (gene_count text)) (drop 2 (words text)))

  past_counts : text_ruling text ≡ ruling (rest ∷ pair_rules (tables text)) (least_counts (tables text) 1 1)
  unfolding text_ruling text_rules
  past_counts = ruling_all (count_rules text) _ (least_counts (tables text) 1 1) R.passed

  rest_is : fits (widths (species_count text) (gene_count text)) (drop 2 (words text)) ≡ right
  rest_is = rw (← R.species, ← R.genes, ← R.rest, ← P, ← Q) (sym K.fit)

  pub rest_refused : right ≡ false → printed text ≡ refused_line 20 0 0
  unfolding printed report number_of tree_of
  rest_refused e = rw (past_counts, ruling_fail rest (pair_rules (tables text)) (least_counts (tables text) 1 1) 0 (refl, rest_is ∙ e))

  pub rest_answered : right ≡ true → printed text ≡ answered w
  unfolding printed answered tables
  rest_answered e =
      let t : w ≡ tables text = K.told e ∙ rw (P, Q, R.species, R.genes, R.rest) in
      rw (past_counts, ruling_pass rest (pair_rules (tables text)) (least_counts (tables text) 1 1) (true_T (rest_is ∙ e)), t)

-- ---- the tables that it is read into

pub zeros_length : (n : ℕ) → n ≤ 2047 → n ≡ length (take n zeros)
zeros_length n h = sym (length-take-le n zeros (rw zeros_size h))

pub sized_ready : (text : List ℕ) (p q next : ℕ) → SizesRead text p q next → Ready text next (pair (take p zeros) (take p zeros) (take q zeros) (take q zeros))
sized_ready text p q next R =
    let P : length (take p zeros) ≡ p = sym (zeros_length p R.p_few) in
    let Q : length (take q zeros) ≡ q = sym (zeros_length q R.q_few) in
    record { read = rw (P, Q) R; st_even = refl; gt_even = refl }

-- ---- what is left in the buffer

-- as many bytes as the buffer has, at most
pub outcome_counts : (new old out : List ℕ) (r : ℕ) → ◌≡◌ {A = Outcome} (record { written = r; out = out }) (outcome new old) → IsPrefixLen r out
unfolding outcome pick
outcome_counts new old out r e =
    elim (test (leb (length new) (length old))) [
      | inl t ↦
          let q : ◌≡◌ {A = Outcome} (record { written = r; out = out }) (record { written = length new; out = replaced new old }) = e ∙ rw t in
          let w : r ≡ length new = ap (λ o. o.written) q in
          let b : out ≡ replaced new old = ap (λ o. o.out) q in
          let s : length (take (length new) (replaced new old)) ≡ length new = ap length (take_replaced new old) in
          let l : length (replaced new old) ≡ length old = length_replaced new old (leb-true (length new) (length old) t) in
          rw (w, b) (omega (arith, l, leb-true (length new) (length old) t), sym s)
      | inr t ↦
          let q : ◌≡◌ {A = Outcome} (record { written = r; out = out }) (record { written = 0; out = old }) = e ∙ rw t in
          let w : r ≡ 0 = ap (λ o. o.written) q in
          rw w (omega arith, refl)
    ]
