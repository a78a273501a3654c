-- What the program prints.                                                               (01, "The host and the program")
--   ended n b          == the number n and the byte behind it
--   letter l           == the letter of a label                        (01, "letter (L, S, D)", for labels 0, 1, 2)
--   node_line g s l    == the line of gene node g: "a line of node, place, letter"
--   history_lines h gs == the lines of the gene nodes gs in the history h
--   counts_line c      == "a line of duplications, losses, speciations, climbs, cost"
--   refused_line n t v == "A refusal prints one line only, as `refused 1 2 0`: number, tree, place"
--   report w r         == what is printed of the tables w if r is answered
--   answered w         == what is printed of the tables w: their least history, or the first of the trees' own refusals
--   printed text       == the bytes that the program prints when it reads the text
-- Space is 32, line feed 10; "Every printed line ends with a line feed". Assumes nothing.
use Rattle.std.specs.Prelude.{ℕ, List, [], ◌∷◌, ◌++◌, eqb}
use Rattle.trees.specs.Lists.{pick}
use Rattle.trees.specs.Rulings.{Ruling, accepted, refused, ruling}
use Rattle.trees.specs.Trees.{nodes}
use Rattle.trees.specs.Tables.{Pair}
use Rattle.trees.specs.Rules.{pair_rules}
use Rattle.histories.specs.Histories.{History, least}
use Rattle.histories.specs.Rules.{Counts, least_counts}
use Rattle.numbers.specs.Numbers.{decimal}
use Rattle.reading.specs.Reading.{tables, text_ruling}

unfoldable pub ended : ℕ → ℕ → List ℕ
ended n b = decimal n ++ b ∷ []

-- "L" is 76, "S" 83, "D" 68
unfoldable pub letter : ℕ → ℕ
letter l = pick (eqb l 0) 76 (pick (eqb l 1) 83 68)

unfoldable pub node_line : ℕ → ℕ → ℕ → List ℕ
node_line g s l = ended g 32 ++ ended s 32 ++ letter l ∷ 10 ∷ []

-- "Each gene node gets a line"
unfoldable pub history_lines : History → List ℕ → List ℕ
history_lines h [] = []
history_lines h (g ∷ gs) = node_line g (h.at g) (h.kind g) ++ history_lines h gs

unfoldable pub counts_line : Counts → List ℕ
counts_line c = ended c.duplications 32 ++ ended c.losses 32 ++ ended c.speciations 32 ++ ended c.climbs 32 ++ ended c.cost 10

-- "refused "
unfoldable pub refused_word : List ℕ
refused_word = 114 ∷ 101 ∷ 102 ∷ 117 ∷ 115 ∷ 101 ∷ 100 ∷ 32 ∷ []

unfoldable pub refused_line : ℕ → ℕ → ℕ → List ℕ
refused_line n t v = refused_word ++ ended n 32 ++ ended t 32 ++ ended v 10

-- the tables w, and what is answered to them
unfoldable pub report : Pair → Ruling Counts → List ℕ
report w (accepted c) = history_lines (least w) (nodes w.gp) ++ counts_line c
report w (refused n t v) = refused_line n t v

unfoldable pub answered : Pair → List ℕ
answered w = report w (ruling (pair_rules w) (least_counts w 1 1))

unfoldable pub printed : List ℕ → List ℕ
printed text = report (tables text) (text_ruling text)
