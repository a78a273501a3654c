-- The rest of the text: the words behind the counts tell four tables, and nothing follows. Assumes nothing.
use Prim.Native.Nat.{ℕ, ◌+◌, ◌≤◌}
use native.Mathlib.Omega.{arith}
use mathlib.Core.Path.{◌≡◌, sym, ap, ◌∙◌}
use mathlib.Core.Logic.{inl, inr}
use mathlib.Core.Bool.{false}
use mathlib.Core.List.{List, [], ◌++◌, map, append_assoc, append-nil}
use lib.ListN.{length, take, drop, length-append, length-drop}
use lib.Seq.{take-append_seam, drop-append_seam, take_at, drop_at, take-length, drop-drop}
use lib.Dec.{eqb}
use borrow.Author.Tests.{eq-eqb, ne_eqb}
use Rattle.trees.specs.Tables.{Pair, pair}
use Rattle.trees.proofs.Bools.{clash}
use Rattle.numbers.specs.Numbers.{value}
use Rattle.numbers.specs.Words.{words}
use Rattle.reading.specs.Reading.{tree_widths, widths, fits, tables_of}
use Rattle.numbers.specs.Cursor.{gap, past_blanks}
use Rattle.reading.specs.Readers.{Taken, TablesRead}
use Rattle.numbers.proofs.Words.{words_opens, gap_words, gap_cases, gap_few}
use Rattle.numbers.proofs.Cursor.{opens_inside}
use Rattle.reading.proofs.Fits.{fits_split, fits_nil}
use Rattle.reading.proofs.Filling.{taken_join, short_join}

-- four tables in a row are cut apart again
pub tables_four : (sp st gp gt : List ℕ) → length st ≡ length sp → length gt ≡ length gp
    → tables_of (length sp) (length gp) (sp ++ st ++ (gp ++ gt)) ≡ pair sp st gp gt
unfolding tables_of
tables_four sp st gp gt e f =
    let g = gp ++ gt in
    let ns = sp ++ st ++ g in
    let p = length sp in
    let q = length gp in
    let line : ns ≡ sp ++ (st ++ g) = append_assoc sp st g in
    let two : length (sp ++ st) ≡ p + p = omega (arith, length-append sp st) in
    let a : take p ns ≡ sp = rw line (take-append_seam sp (st ++ g)) in
    let b : take p (drop p ns) ≡ st = rw (line, drop-append_seam sp (st ++ g)) (take_at st g p e) in
    let c : drop (p + p) ns ≡ g = drop_at (sp ++ st) g (p + p) two in
    let d : drop (p + p + q) ns ≡ gt = sym (drop-drop q (p + p) ns) ∙ rw (c, drop-append_seam gp gt) in
    rw (a, b, c, d, take-append_seam gp gt, ← f, take-length gt)

-- nothing but blanks is left exactly if no word is
rest_end : (text : List ℕ) (at : ℕ) → at ≤ length text → eqb (past_blanks text at) (length text) ≡ fits [] (words (drop at text))
unfolding fits past_blanks words
rest_end text at h =
    let l = drop at text in
    elim (gap_cases l) [
      | inl o ↦
          rw (← gap_words l, words_opens (drop (gap l) l) o)
          (ne_eqb (at + gap l) (length text) (λ z. omega (arith, opens_inside text (at + gap l) (rw (← drop-drop (gap l) at text) o))))
      | inr e ↦
          rw (← gap_words l, e)
          (eq-eqb (at + gap l) (length text) (omega (arith, ap length e, length-drop (gap l) l, gap_few l, length-drop at text)))
    ]

module _ (text : List ℕ) (at : ℕ) (w : Pair) where
  -- the words of the species tree, or then those of the gene tree, are not there
  pub species_short : ((more : List ℕ) → fits (tree_widths (length w.sp) ++ more) (words (drop at text)) ≡ false) → TablesRead text at w false
  unfolding widths
  species_short f = record { fit = sym (f (tree_widths (length w.gp))); told = λ e. clash (cc) }

  module _ (a : ℕ) (K : Taken text at (tree_widths (length w.sp)) (w.sp ++ w.st) a) where
    pub genes_short : ((more : List ℕ) → fits (tree_widths (length w.gp) ++ more) (words (drop a text)) ≡ false) → TablesRead text at w false
    unfolding widths
    genes_short f =
        let s = tree_widths (length w.sp) in
        let g = tree_widths (length w.gp) in
        let e : fits (s ++ g ++ []) (words (drop at text)) ≡ false = short_join text at s (w.sp ++ w.st) a K g f [] in
        record { fit = sym (rw (append-nil (s ++ g)) at e); told = λ z. let y : ◌≡◌ {A = ℕ} 0 1 = cc in absurd (omega arith) }

    -- both are there: then the text is right if nothing follows
    module _ (b : ℕ) (L : Taken text a (tree_widths (length w.gp)) (w.gp ++ w.gt) b) (e : length w.st ≡ length w.sp) (f : length w.gt ≡ length w.gp) where
      pub tables_read : TablesRead text at w (eqb (past_blanks text b) (length text))
      unfolding widths
      tables_read =
          let s = tree_widths (length w.sp) in
          let g = tree_widths (length w.gp) in
          let es = w.sp ++ w.st ++ (w.gp ++ w.gt) in
          let J : Taken text at (s ++ g) es b = taken_join text at s (w.sp ++ w.st) a K g (w.gp ++ w.gt) b L in
          let rest = words (drop b text) in
          let r : fits (s ++ g) (words (drop at text)) ≡ fits [] rest = rw (J.split, ← append-nil (s ++ g)) (fits_split (s ++ g) [] J.own rest J.fit) in
          record {
            fit = rest_end text b J.inside ∙ sym r;
            told = λ z.
                let none : rest ≡ [] = fits_nil rest (sym (rest_end text b J.inside) ∙ z) in
                let all_told : map value (words (drop at text)) ≡ es = rw (J.split, none, append-nil J.own) (sym J.told) in
                rw all_told (sym (tables_four w.sp w.st w.gp w.gt e f));
          }
