-- Tables written as a text are read back, and the program answers them by the least history's ruling.
--   written_tables, written_ruling, written_least : of any tables of the right sizes and widths whose text is not too long
--   sound_fits, sound_tables, sound_ruling, sound_printed : of a sound pair, whose text is never too long
--   canonical-.. : the same of its text with single spaces
-- Assumes nothing.
use Prim.Native.Nat.{ℕ, ◌^◌, ◌≤◌, ◌<◌}
use native.Mathlib.Omega.{arith}
use native.Mathlib.Decide.{ℕ_discrete}
use mathlib.Core.Path.{◌≡◌, sym, ◌∙◌}
use mathlib.Core.List.{List, ◌∷◌, ◌++◌, map, map-append}
use lib.ListN.{length, get_or, drop, replicate}
use lib.Dec.{T, leb, le→leb}
use Rattle.trees.specs.Rulings.{accepted, whole, ruling, Passes, Every, done, and}
use Rattle.trees.specs.Trees.{nodes}
use Rattle.trees.specs.Tables.{Pair, taxon}
use Rattle.trees.specs.Sound.{SoundTree, Sound}
use Rattle.trees.specs.Rules.{pair_rules}
use Rattle.trees.proofs.Bools.{and_both}
use Rattle.trees.proofs.Lines.{up_at}
use Rattle.trees.proofs.Rulings.{ruling_all, ruling_pass, ruling_passes}
use Rattle.trees.proofs.Soundness.{pair_sound}
use Rattle.histories.specs.Histories.{least}
use Rattle.histories.specs.Rules.{least_counts, least_ruling}
use Rattle.numbers.specs.Numbers.{is_number, decimal}
use Rattle.numbers.specs.Words.{words}
use Rattle.reading.specs.Reading.{word, species_count, gene_count, counted, tree_widths, widths, fits, tables, count_rules, text_rules, text_ruling}
use Rattle.reading.proofs.Fits.{fits_split}
use Rattle.reading.proofs.Rest.{tables_four}
use Rattle.printing.specs.Printing.{history_lines, counts_line, report, printed}
use Rattle.printing.specs.Written.{Written, numbers_of, Writable, canonical}
use Rattle.printing.proofs.Decimal.{decimal_value}
use Rattle.printing.proofs.Written.{written_words, written_length, spaced_written, decimal_number, decimal_fits, decimal_values}
use Rattle.printing.proofs.Lengths.{gene_taxa_small, numbers_length}
use Rattle.text.proofs.Answered.{roomy_ruling}

fits_join : (bs cs : List ℕ) (us vs : List (List ℕ)) → T (fits bs us) → T (fits cs vs) → T (fits (bs ++ cs) (us ++ vs))
fits_join bs cs us vs s t = rw (fits_split bs cs us vs s) t

module _ {w : Pair} (F : Writable w) {text : List ℕ} (W : Written (numbers_of w) text) where
  abbrev p : ℕ
  p = length w.sp

  abbrev q : ℕ
  q = length w.gp

  abbrev rest : List ℕ
  rest = w.sp ++ w.st ++ (w.gp ++ w.gt)

  word_list : words text ≡ decimal p ∷ decimal q ∷ map decimal rest
  unfolding numbers_of
  word_list = written_words W

  species_is : species_count text ≡ p
  unfolding species_count word
  species_is = rw word_list (decimal_value p)

  genes_is : gene_count text ≡ q
  unfolding gene_count word
  genes_is = rw word_list (decimal_value q)

  pub written_tables : tables text ≡ w
  unfolding tables
  written_tables = rw (species_is, genes_is, word_list, decimal_values rest) (tables_four w.sp w.st w.gp w.gt F.st_even F.gt_even)

  rest_fits : T (fits (widths p q) (map decimal rest))
  unfolding widths tree_widths
  rest_fits =
      rw (map-append decimal (w.sp ++ w.st) (w.gp ++ w.gt), map-append decimal w.sp w.st, map-append decimal w.gp w.gt)
      (fits_join (replicate p 16 ++ replicate p 32) (replicate q 16 ++ replicate q 32) (map decimal w.sp ++ map decimal w.st) (map decimal w.gp ++ map decimal w.gt)
      (fits_join (replicate p 16) (replicate p 32) (map decimal w.sp) (map decimal w.st)
      (decimal_fits 16 w.sp (omega arith) F.sp_wide) (rw F.st_even at (decimal_fits 32 w.st (omega arith) F.st_wide)))
      (fits_join (replicate q 16) (replicate q 32) (map decimal w.gp) (map decimal w.gt)
      (decimal_fits 16 w.gp (omega arith) F.gp_wide) (rw F.gt_even at (decimal_fits 32 w.gt (omega arith) F.gt_wide))))

  counts_pass : length text ≤ 49152 → Every Passes (count_rules text)
  unfolding count_rules counted word
  counts_pass h =
      let P : p ≤ 2047 = F.p_few in
      let Q : q ≤ 2047 = F.q_few in
      rw (species_is, genes_is, word_list)
      (and (le→leb (length text) 49152 h)
      (and (and_both (is_number 32 (decimal p)) (is_number 32 (decimal q)) (decimal_number 32 p (omega arith) (omega arith)) (decimal_number 32 q (omega arith) (omega arith)))
      (and (and_both (leb 1 p) (leb p 2047) (le→leb 1 p F.p_some) (le→leb p 2047 P))
      (and (and_both (leb 1 q) (leb q 2047) (le→leb 1 q F.q_some) (le→leb q 2047 Q))
      done))))

  pub written_ruling : length text ≤ 49152 → text_ruling text ≡ ruling (pair_rules w) (least_counts w 1 1)
  unfolding text_ruling text_rules
  written_ruling h =
      let t : T (fits (widths (species_count text) (gene_count text)) (drop 2 (words text))) = rw (species_is, genes_is, word_list) rest_fits in
      ruling_all (count_rules text) _ (least_counts (tables text) 1 1) (counts_pass h)
      ∙ ruling_pass (whole 20 0 0 (fits (widths (species_count text) (gene_count text)) (drop 2 (words text)))) (pair_rules (tables text)) (least_counts (tables text) 1 1) t
      ∙ rw written_tables

  -- the ruling of the least history's call, with room in its two lent tables
  pub written_least : length text ≤ 49152 → (places labels : List ℕ) → q ≤ length places → q ≤ length labels → text_ruling text ≡ least_ruling w places labels 1 1
  written_least h places labels a b = written_ruling h ∙ sym (roomy_ruling w places labels 1 1 a b)

-- ---- sound pairs

parents_wide : (par tax : List ℕ) → SoundTree par tax → (i : ℕ) → i < length par → get_or par i 0 < 2 ^ 16
parents_wide par tax S i l =
    elim (ℕ_discrete i S.root) [
      | yes e ↦ rw e (omega (arith, S.root_up, up_at par S.root S.root_in))
      | no e ↦ omega (arith, S.others i l e, up_at par i l, S.few)
    ]

module _ {w : Pair} (S : Sound w) (small : (i : ℕ) → i < length w.st → taxon w.st i < 2 ^ 32) where
  pub sound_writable : Writable w
  sound_writable =
      record {
        p_some = S.species.tree.some;
        p_few = S.species.tree.few;
        q_some = S.genes.some;
        q_few = S.genes.few;
        st_even = S.species.tree.even;
        gt_even = S.genes.even;
        sp_wide = parents_wide w.sp w.st S.species.tree;
        st_wide = small;
        gp_wide = parents_wide w.gp w.gt S.genes;
        gt_wide = gene_taxa_small S small;
      }

  module _ {text : List ℕ} (W : Written (numbers_of w) text) where
    -- "any sound pair fits if written without leading zeros and with single separators"
    pub sound_fits : length text ≤ 49152
    sound_fits = omega (arith, written_length W, numbers_length S small)

    pub sound_tables : tables text ≡ w
    sound_tables = written_tables sound_writable W

    pub sound_ruling : text_ruling text ≡ accepted (least_counts w 1 1)
    sound_ruling = written_ruling sound_writable W sound_fits ∙ ruling_passes (pair_rules w) (least_counts w 1 1) ((pair_sound w).1 S)

    pub sound_printed : printed text ≡ history_lines (least w) (nodes w.gp) ++ counts_line (least_counts w 1 1)
    unfolding printed report
    sound_printed = rw (sound_tables, sound_ruling)

  -- with single spaces
  written_canonical : Written (numbers_of w) (canonical w)
  unfolding canonical numbers_of
  written_canonical = spaced_written (length w.sp) (length w.gp ∷ (w.sp ++ w.st ++ (w.gp ++ w.gt)))

  pub canonical_fits : length (canonical w) ≤ 49152
  canonical_fits = sound_fits written_canonical

  pub canonical_tables : tables (canonical w) ≡ w
  canonical_tables = sound_tables written_canonical

  pub canonical_printed : printed (canonical w) ≡ history_lines (least w) (nodes w.gp) ++ counts_line (least_counts w 1 1)
  canonical_printed = sound_printed written_canonical
