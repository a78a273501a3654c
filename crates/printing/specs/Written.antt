-- Tables written as the program's text.                    (01, "any sound pair fits if written without leading zeros and with single separators")
--   Written ns text <-> text is the numbers ns in decimal, without leading zeros and with single separators between them; one may
--                       stand at the end
--   numbers_of w    == the numbers of the program's text: both counts, then the four tables
--   Writable w      <-> the four tables have the sizes and widths that a text can tell
--   canonical w     == the text of w with single spaces, as 01 writes its example
-- Assumes nothing.
use Rattle.std.specs.Prelude.{ℕ, ◌^◌, ◌≤◌, ◌<◌, ◌≡◌, List, [], ◌∷◌, ◌++◌, length, get_or, T}
use Rattle.trees.specs.Tables.{Pair}
use Rattle.numbers.specs.Numbers.{decimal}
use Rattle.numbers.specs.Words.{blank}
use Rattle.printing.specs.Printing.{ended}

pub data Written : List ℕ → List ℕ → Type 0 where
  last : (n : ℕ) → Written (n ∷ []) (decimal n)
  closing : (n b : ℕ) → T (blank b) → Written (n ∷ []) (ended n b)
  more : (n b : ℕ) {ns text : List ℕ} → T (blank b) → Written ns text → Written (n ∷ ns) (ended n b ++ text)

-- "p, q, species parents, species taxa, gene parents, gene taxa"
unfoldable pub numbers_of : Pair → List ℕ
numbers_of w = length w.sp ∷ length w.gp ∷ (w.sp ++ w.st ++ (w.gp ++ w.gt))

-- "1 to 2,047 .. two tables of n entries"; "Parents, 16 bits each"; "Taxa, 32 bits each"
pub record Writable (w : Pair) : Type 0 where
  pub p_some : 1 ≤ length w.sp
  pub p_few : length w.sp ≤ 2047
  pub q_some : 1 ≤ length w.gp
  pub q_few : length w.gp ≤ 2047
  pub st_even : length w.st ≡ length w.sp
  pub gt_even : length w.gt ≡ length w.gp
  pub sp_wide : (i : ℕ) → i < length w.sp → get_or w.sp i 0 < 2 ^ 16
  pub st_wide : (i : ℕ) → i < length w.st → get_or w.st i 0 < 2 ^ 32
  pub gp_wide : (i : ℕ) → i < length w.gp → get_or w.gp i 0 < 2 ^ 16
  pub gt_wide : (i : ℕ) → i < length w.gt → get_or w.gt i 0 < 2 ^ 32

unfoldable pub spaced : List ℕ → List ℕ
spaced [] = []
spaced (n ∷ []) = decimal n
spaced (n ∷ m ∷ ns) = ended n 32 ++ spaced (m ∷ ns)

unfoldable pub canonical : Pair → List ℕ
canonical w = spaced (numbers_of w)
