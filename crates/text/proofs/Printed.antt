-- What is printed is never empty and never long.
--   printed_some : at least one byte
--   printed_fits : at most 24,598 bytes: 2,047 lines of 12 bytes, and one of 34
-- Assumes nothing.
use Prim.Native.Nat.{ℕ, zero, suc, ◌+◌, ◌*◌, ◌≤◌, ◌<◌}
use native.Mathlib.Omega.{arith}
use native.Mathlib.Numerals.{add-one}
use mathlib.Core.Path.{◌≡◌, refl, sym, ap, ◌∙◌}
use mathlib.Core.Logic.{◌⊎◌, inl, inr}
use mathlib.Core.Bool.{Bool}
use mathlib.Core.List.{List, [], ◌∷◌, ◌++◌, map}
use lib.ListN.{length, take, drop, length-append, length-take}
use Rattle.trees.specs.Rulings.{Ruling, accepted, refused, Rule, whole, each, ruling, number_of, tree_of, Passes, Fails, Every, done, and}
use Rattle.trees.specs.Trees.{nodes}
use Rattle.trees.specs.Tables.{Pair}
use Rattle.trees.specs.Sound.{Sound}
use Rattle.trees.specs.Rules.{root_rules, child_rules, shape_rules, species_rules, family_rules, gene_rules, pair_rules}
use Rattle.trees.proofs.Bools.{clash}
use Rattle.trees.proofs.Rulings.{rule_cases, ruling_pass, ruling_fail, ruling_accepted, every_right, every_head, every_tail}
use Rattle.trees.proofs.Soundness.{pair_sound}
use Rattle.histories.specs.Histories.{History, least, cost}
use Rattle.histories.specs.Rules.{least_counts}
use Rattle.histories.proofs.Places.{place_node}
use Rattle.histories.proofs.Bounds.{duplications_few, speciations_few, least_losses_few, least_climbs_few}
use Rattle.numbers.specs.Numbers.{value}
use Rattle.numbers.specs.Words.{words}
use Rattle.reading.specs.Reading.{species_count, gene_count, widths, fits, tables_of, tables, count_rules, text_rules, text_ruling}
use Rattle.reading.proofs.Counted.{counted_few}
use Rattle.printing.specs.Printing.{node_line, history_lines, counts_line, refused_line, report, printed}
use Rattle.printing.proofs.Decimal.{decimal_few}
use Rattle.printing.proofs.Lines.{node_length, counts_length, refused_length, lines_to, lines_none, lines_more}

-- ---- refusals

-- a rule with a number of two digits and a small tree, refused at a place of 16 bits
abbrev Small : Rule → Type 0
Small (whole n t v b) = (n ≤ 99) × (t ≤ 2) × (v ≤ 65535)
Small (each n t k ok) = (n ≤ 99) × (t ≤ 2) × (k ≤ 2047)

-- a refusal of rules in a row is one of the first, or they pass and it is one of the others
ruling_split : {A : Type 0} (rs ss : List Rule) (a : A) (n t v : ℕ) → ruling (rs ++ ss) a ≡ refused n t v
    → (ruling rs a ≡ refused n t v) ⊎ (Every Passes rs × (ruling ss a ≡ refused n t v))
ruling_split [] ss a n t v e = inr (done, e)
ruling_split (r ∷ rs) ss a n t v e =
    elim (rule_cases r) [
      | inl p ↦ elim (ruling_split rs ss a n t v (sym (ruling_pass r (rs ++ ss) a p) ∙ e)) [
        | inl q ↦ inl (ruling_pass r rs a p ∙ q)
        | inr q ↦ inr (and p q.0, q.1)
      ]
      | inr f ↦ inl (ruling_fail r rs a f.0 f.1 ∙ sym (ruling_fail r (rs ++ ss) a f.0 f.1) ∙ e)
    ]

small_at : (n t v : ℕ) {b : Bool} {rs : List Rule} → n ≤ 99 → t ≤ 2 → v ≤ 65535 → Every Small rs → Every Small (whole n t v b ∷ rs)
small_at n t v {b} x y z ss = and {r = whole n t v b} (x, y, z) ss

small_one : (n t : ℕ) {b : Bool} {rs : List Rule} → n ≤ 99 → t ≤ 2 → Every Small rs → Every Small (whole n t 0 b ∷ rs)
small_one n t x y ss = small_at n t 0 x y (omega arith) ss

small_each : (n t : ℕ) {k : ℕ} {ok : ℕ → Bool} {rs : List Rule} → n ≤ 99 → t ≤ 2 → k ≤ 2047 → Every Small rs → Every Small (each n t k ok ∷ rs)
small_each n t {k} {ok} x y z ss = and {r = each n t k ok} (x, y, z) ss

small_fails : (r : Rule) (v : ℕ) → Small r → Fails r v → (number_of r ≤ 99) × (tree_of r ≤ 2) × (v ≤ 65535)
unfolding number_of tree_of
small_fails (whole n t u b) v s f = (s.0, s.1, omega (arith, s.2, f.0))
small_fails (each n t k ok) v s f = (s.0, s.1, omega (arith, s.2, f.0))

ruling_small : {A : Type 0} (rs : List Rule) (a : A) (n t v : ℕ) → Every Small rs → ruling rs a ≡ refused n t v → (n ≤ 99) × (t ≤ 2) × (v ≤ 65535)
unfolding ruling
ruling_small [] a n t v done e = clash (cc)
ruling_small (r ∷ rs) a n t v (and s ss) e =
    elim (rule_cases r) [
      | inl p ↦ ruling_small rs a n t v ss (sym (ruling_pass r rs a p) ∙ e)
      | inr f ↦
          let k = small_fails r f.0 s f.1 in
          let q = sym (ruling_fail r rs a f.0 f.1) ∙ e in
          let x : number_of r ≡ n = cc in
          let y : tree_of r ≡ t = cc in
          let z : f.0 ≡ v = cc in
          (rw x at k.0, rw y at k.1, rw z at k.2)
    ]

pair_small : (w : Pair) → length w.sp ≤ 2047 → length w.gp ≤ 2047 → Every Small (pair_rules w)
unfolding pair_rules species_rules gene_rules family_rules shape_rules root_rules child_rules
pair_small w a b =
    small_one 1 1 (omega arith) (omega arith)
    (small_each 2 1 (omega arith) (omega arith) a
    (small_at 2 1 65535 (omega arith) (omega arith) (omega arith)
    (small_each 38 1 (omega arith) (omega arith) a
    (small_each 3 1 (omega arith) (omega arith) a
    (small_each 4 1 (omega arith) (omega arith) a
    (small_each 5 1 (omega arith) (omega arith) a
    (small_one 1 2 (omega arith) (omega arith)
    (small_each 2 2 (omega arith) (omega arith) b
    (small_at 2 2 65535 (omega arith) (omega arith) (omega arith)
    (small_each 38 2 (omega arith) (omega arith) b
    (small_each 3 2 (omega arith) (omega arith) b
    (small_each 4 2 (omega arith) (omega arith) b
    (small_each 6 2 (omega arith) (omega arith) b
    done)))))))))))))

take_few : (n : ℕ) (l : List ℕ) → length (take n l) ≤ n
take_few n l = omega (arith, length-take n l)

text_small : (text : List ℕ) (n t v : ℕ) → text_ruling text ≡ refused n t v → (n ≤ 99) × (t ≤ 2) × (v ≤ 65535)
unfolding text_ruling text_rules count_rules tables tables_of
text_small text n t v e =
    let w = tables text in
    let last = whole 20 0 0 (fits (widths (species_count text) (gene_count text)) (drop 2 (words text))) in
    elim (ruling_split (count_rules text) (last ∷ pair_rules w) (least_counts w 1 1) n t v e) [
      | inl q ↦ ruling_small (count_rules text) (least_counts w 1 1) n t v
          (small_one 20 0 (omega arith) (omega arith) (small_one 20 0 (omega arith) (omega arith) (small_one 1 1 (omega arith) (omega arith) (small_one 1 2 (omega arith) (omega arith) done)))) q
      | inr q ↦
          let p_few = counted_few (species_count text) (every_head (every_tail (every_tail q.0))) in
          let q_few = counted_few (gene_count text) (every_head (every_tail (every_tail (every_tail q.0)))) in
          ruling_small (last ∷ pair_rules w) (least_counts w 1 1) n t v
          (small_one 20 0 (omega arith) (omega arith)
          (pair_small w (omega (arith, p_few, take_few (species_count text) (map value (drop 2 (words text))))) (omega (arith, q_few, take_few (gene_count text) (drop (species_count text + species_count text) (map value (drop 2 (words text)))))))) q.1
    ]

refused_few : (n t v : ℕ) → (n ≤ 99) × (t ≤ 2) × (v ≤ 65535) → length (refused_line n t v) ≤ 19
refused_few n t v s =
    omega (
      arith,
      refused_length n t v,
      decimal_few 1 n (omega (arith, s.0)),
      decimal_few 0 t (omega (arith, s.1)),
      decimal_few 4 v (omega (arith, s.2)),
    )

-- ---- the lines of a history

lines_few : (h : History) (i : ℕ) → i ≤ 10000 → ((g : ℕ) → g < i → h.at g < 10000) → length (lines_to h i) ≤ 12 * i
lines_few h zero l f = omega (arith, ap length (lines_none h))
lines_few h (suc i) l f =
    omega (
      arith,
      ap (λ k. length (lines_to h k)) (add-one i),
      ap length (lines_more h i),
      length-append (lines_to h i) (node_line i (h.at i) (h.kind i)),
      node_length i (h.at i) (h.kind i),
      decimal_few 3 i (omega arith),
      decimal_few 3 (h.at i) (omega (arith, f i (omega arith))),
      lines_few h i (omega arith) (λ g z. f g (omega arith)),
    )

module _ {w : Pair} (S : Sound w) where
  counts_few : length (counts_line (least_counts w 1 1)) ≤ 34
  unfolding least_counts cost
  counts_few =
      let c = least_counts w 1 1 in
      let few : length w.gp ≤ 2047 = S.genes.few in
      let d = duplications_few w.gp (least w) in
      let s = speciations_few w.gp (least w) in
      let l = least_losses_few S in
      let k = least_climbs_few S in
      omega (
        arith,
        counts_length c,
        decimal_few 3 c.duplications (omega arith),
        decimal_few 6 c.losses (omega arith),
        decimal_few 3 c.speciations (omega arith),
        decimal_few 6 c.climbs (omega arith),
        decimal_few 6 c.cost (omega arith),
      )

  history_few : length (history_lines (least w) (nodes w.gp) ++ counts_line (least_counts w 1 1)) ≤ 24598
  unfolding nodes
  history_few =
      let lines = lines_to (least w) (length w.gp) in
      omega (
        arith,
        length-append lines (counts_line (least_counts w 1 1)),
        lines_few (least w) (length w.gp) (omega (arith, S.genes.few)) (λ g l. omega (arith, place_node S g l, S.species.tree.few)),
        counts_few,
        S.genes.few,
      )

-- ---- what is printed

ruling_cases : {A : Type 0} (r : Ruling A) → ((a : A) × (r ≡ accepted a)) ⊎ ((n : ℕ) × (t : ℕ) × (v : ℕ) × (r ≡ refused n t v))
ruling_cases (accepted a) = inl (a, refl)
ruling_cases (refused n t v) = inr (n, t, v, refl)

pub printed_some : (text : List ℕ) → 1 ≤ length (printed text)
unfolding printed report
printed_some text =
    elim (ruling_cases (text_ruling text)) [
      | inl a ↦ rw a.1 (omega (arith, length-append (history_lines (least (tables text)) (nodes (tables text).gp)) (counts_line a.0), counts_length a.0))
      | inr r ↦ rw r.3 (omega (arith, refused_length r.0 r.1 r.2))
    ]

pub printed_fits : (text : List ℕ) → length (printed text) ≤ 24598
unfolding printed report text_ruling text_rules
printed_fits text =
    let w = tables text in
    elim (ruling_cases (text_ruling text)) [
      | inl a ↦
          let k = ruling_accepted (text_rules text) (least_counts w 1 1) a.0 a.1 in
          let S : Sound w = (pair_sound w).0 (every_tail (every_right (count_rules text) _ k.0)) in
          rw (a.1, ← k.1) (history_few S)
      | inr r ↦ rw r.3 (omega (arith, refused_few r.0 r.1 r.2 (text_small text r.0 r.1 r.2 r.3)))
    ]
