-- 01's printed example, as one theorem.                                                (01, "Input .. prints")
--   example  == `5 5 65535 0 1 1 0 0 0 11 12 13 65535 0 1 1 0 0 0 11 13 12`
--   shown    == the six lines that 01 prints below it
--   example_printed : the program prints them
-- Assumes nothing.
use Rattle.std.specs.Prelude.{ℕ, ◌≡◌, refl, List, [], ◌∷◌}
use Rattle.trees.specs.Lists.{range, cons_if, keep_if, has, all, any, pick, first, total, one, lowest}
use Rattle.trees.specs.Trees.{up, is_root, climb, line, nodes, kids, kid, is_leaf, depth}
use Rattle.trees.specs.Tables.{carrier, home}
use Rattle.trees.specs.Rulings.{ruling}
use Rattle.trees.specs.Rules.{sized, parented, topped, reaching, paired, marked, fresh, known, root_rules, child_rules, shape_rules, species_rules, family_rules, gene_rules, pair_rules}
use Rattle.histories.specs.Places.{below, leaves, holds, place}
use Rattle.histories.specs.Histories.{label, edge, losses_at, losses, climbs_at, climbs, duplications, speciations, cost}
use Rattle.histories.specs.Rules.{least_counts}
use Rattle.numbers.specs.Numbers.{digit, spelled, is_number, digits_of, decimal}
use Rattle.numbers.specs.Words.{blank, opens, grown, words}
use Rattle.reading.specs.Reading.{word, species_count, gene_count, counted, tree_widths, widths, fits, tables_of, tables, count_rules, text_rules, text_ruling}
use Rattle.printing.specs.Printing.{ended, letter, node_line, history_lines, counts_line, refused_word, refused_line, report, printed}

unfoldable pub example : List ℕ
example =
    53 ∷ 32 ∷ 53 ∷ 32 ∷ 54 ∷ 53 ∷ 53 ∷ 51 ∷ 53 ∷ 32 ∷ 48 ∷ 32 ∷ 49 ∷ 32 ∷ 49 ∷ 32
    ∷ 48 ∷ 32 ∷ 48 ∷ 32 ∷ 48 ∷ 32 ∷ 49 ∷ 49 ∷ 32 ∷ 49 ∷ 50 ∷ 32 ∷ 49 ∷ 51 ∷ 32 ∷ 54
    ∷ 53 ∷ 53 ∷ 51 ∷ 53 ∷ 32 ∷ 48 ∷ 32 ∷ 49 ∷ 32 ∷ 49 ∷ 32 ∷ 48 ∷ 32 ∷ 48 ∷ 32 ∷ 48
    ∷ 32 ∷ 49 ∷ 49 ∷ 32 ∷ 49 ∷ 51 ∷ 32 ∷ 49 ∷ 50 ∷ []

unfoldable pub shown : List ℕ
shown =
    48 ∷ 32 ∷ 48 ∷ 32 ∷ 68 ∷ 10
    ∷ 49 ∷ 32 ∷ 48 ∷ 32 ∷ 83 ∷ 10
    ∷ 50 ∷ 32 ∷ 50 ∷ 32 ∷ 76 ∷ 10
    ∷ 51 ∷ 32 ∷ 52 ∷ 32 ∷ 76 ∷ 10
    ∷ 52 ∷ 32 ∷ 51 ∷ 32 ∷ 76 ∷ 10
    ∷ 49 ∷ 32 ∷ 51 ∷ 32 ∷ 49 ∷ 32
    ∷ 53 ∷ 32 ∷ 52 ∷ 10 ∷ []

pub example_printed : printed example ≡ shown
unfolding example shown range cons_if keep_if has all any first total one lowest up is_root climb line nodes kids kid is_leaf depth carrier home pick ruling sized parented topped reaching paired marked fresh known root_rules child_rules shape_rules species_rules family_rules gene_rules pair_rules below leaves holds place label edge losses_at losses climbs_at climbs duplications speciations cost least_counts digit spelled is_number digits_of decimal blank opens grown words word species_count gene_count counted tree_widths widths fits tables_of tables count_rules text_rules text_ruling ended letter node_line history_lines counts_line refused_word refused_line report printed
example_printed = refl
