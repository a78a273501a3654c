-- The bytes of a line.
--   numeral n         == the digits of n
--   spaced n          == a space, and the digits of n
--   word_bytes b      == `refused`, or `ok`
--   up_to_five_lem k  == k, or 5 if it is more
--   spaced_from ns i k == the k numbers of ns from entry i on, each behind a space
--   rest_bytes ns k   == the first k of the numbers, at most five, each behind a space; and the line's end
--   all_spaced ns     == all the numbers, each behind a space; and the line's end
--   line_bytes l      == the whole line
--   entry_bytes i n   == entry i of a table: no space before the first
--   entries_from i ns == the entries ns, the first of which is entry i
--   table_bytes ns    == the line of a table
-- Space is 32, line feed 10. Assumes nothing.
use Rattle.std.specs.Prelude.{ℕ, zero, suc, ◌+◌, Bool, List, [], ◌∷◌, ◌++◌, length, get_or, eqb, ltb}
use Rattle.trees.specs.Lists.{pick}
use Rattle.numbers.specs.Numbers.{decimal}
use Rattle.showing.specs.declared.Line.{Line}

abbrev pub numeral : ℕ → List ℕ
numeral n = decimal n

abbrev pub spaced : ℕ → List ℕ
spaced n = 32 ∷ decimal n

unfoldable pub word_bytes : Bool → List ℕ
word_bytes b = pick b (114 ∷ 101 ∷ 102 ∷ 117 ∷ 115 ∷ 101 ∷ 100 ∷ []) (111 ∷ 107 ∷ [])

unfoldable pub up_to_five_lem : ℕ → ℕ
up_to_five_lem k = pick (ltb k 5) k 5

unfoldable pub spaced_from : List ℕ → ℕ → ℕ → List ℕ
spaced_from ns i zero = []
spaced_from ns i (suc k) = spaced (get_or ns i 0) ++ spaced_from ns (i + 1) k

unfoldable pub rest_bytes : List ℕ → ℕ → List ℕ
rest_bytes ns k = spaced_from ns 0 (up_to_five_lem k) ++ 10 ∷ []

abbrev pub all_spaced : List ℕ → List ℕ
all_spaced ns = spaced_from ns 0 (length ns) ++ 10 ∷ []

unfoldable pub line_bytes : Line → List ℕ
line_bytes l = word_bytes l.refused ++ rest_bytes l.numbers l.count

unfoldable pub entry_bytes : ℕ → ℕ → List ℕ
entry_bytes i n = pick (eqb i 0) (numeral n) (spaced n)

unfoldable pub entries_from : ℕ → List ℕ → List ℕ
entries_from i [] = []
entries_from i (n ∷ ns) = entry_bytes i n ++ entries_from (i + 1) ns

unfoldable pub table_bytes : List ℕ → List ℕ
table_bytes ns = entries_from 0 ns ++ 10 ∷ []
