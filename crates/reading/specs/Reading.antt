-- The reading of the program's text: its rules in order, and the tables it tells.        (01, "The host and the program")
--   word text i       == the word number i of the text; no byte if there is none
--   species_count, gene_count text == p and q                            (01, "decimal numbers .. p, q, species parents, species taxa, gene parents, gene taxa")
--   counted n         == a count that is neither 0 nor over 2,047
--   tree_widths n     == the widths of the numbers of a tree of n nodes, in order        (01, "Parents, 16 bits each", "Taxa, 32 bits each")
--   widths p q        == those of all numbers behind the counts
--   fits bs ws        == as many words as widths, each a number of its width
--   tables_of p q ns  == the four tables that 2p + 2q numbers tell; tables text are those of a text
--   count_rules, text_rules == the rules of the counts, and of the whole text, in 01's order
--   text_ruling text  == what the program answers: refused, or accepted with the counts of the least history at weights 1 and 1
-- Assumes nothing.
use Rattle.std.specs.Prelude.{ℕ, ◌+◌, Bool, true, false, ◌&&◌, List, [], ◌∷◌, ◌++◌, map, length, get_or, take, drop, replicate, leb}
use Rattle.trees.specs.Rulings.{Ruling, Rule, whole, ruling}
use Rattle.trees.specs.Tables.{Pair, pair}
use Rattle.trees.specs.Rules.{pair_rules}
use Rattle.histories.specs.Rules.{Counts, least_counts}
use Rattle.numbers.specs.Numbers.{value, is_number}
use Rattle.numbers.specs.Words.{words}

unfoldable pub word : List ℕ → ℕ → List ℕ
word text i = get_or (words text) i []

unfoldable pub species_count : List ℕ → ℕ
species_count text = value (word text 0)

unfoldable pub gene_count : List ℕ → ℕ
gene_count text = value (word text 1)

unfoldable pub counted : ℕ → Bool
counted n = leb 1 n && leb n 2047

unfoldable pub tree_widths : ℕ → List ℕ
tree_widths n = replicate n 16 ++ replicate n 32

unfoldable pub widths : ℕ → ℕ → List ℕ
widths p q = tree_widths p ++ tree_widths q

-- "Anything else, too few or too many is 20."
unfoldable pub fits : List ℕ → List (List ℕ) → Bool
fits [] [] = true
fits [] (w ∷ ws) = false
fits (b ∷ bs) [] = false
fits (b ∷ bs) (w ∷ ws) = is_number b w && fits bs ws

unfoldable pub tables_of : ℕ → ℕ → List ℕ → Pair
tables_of p q ns = pair (take p ns) (take p (drop p ns)) (take q (drop (p + p) ns)) (take q (drop (p + p + q) ns))

unfoldable pub tables : List ℕ → Pair
tables text = tables_of (species_count text) (gene_count text) (map value (drop 2 (words text)))

-- "Text over 49,152 bytes is 20 before all else .. Both counts are read first: one missing or malformed is 20, then p, then q, of 0
-- or over 2,047 gives 1 before the rest is read"
unfoldable pub count_rules : List ℕ → List Rule
count_rules text =
    whole 20 0 0 (leb (length text) 49152)
    ∷ whole 20 0 0 (is_number 32 (word text 0) && is_number 32 (word text 1))
    ∷ whole 1 1 0 (counted (species_count text))
    ∷ whole 1 2 0 (counted (gene_count text))
    ∷ []

-- "in the rest 20 comes before the tree rules"
unfoldable pub text_rules : List ℕ → List Rule
text_rules text =
    count_rules text ++ whole 20 0 0 (fits (widths (species_count text) (gene_count text)) (drop 2 (words text))) ∷ pair_rules (tables text)

unfoldable pub text_ruling : List ℕ → Ruling Counts
text_ruling text = ruling (text_rules text) (least_counts (tables text) 1 1)
