-- What the readers answer and leave.
--   TreeRoom text at par tax   <-> `at` is a place of the text, and the two tables agree in length
--   TablesRoom text at w       <-> the same of the tables of two trees
--   Taken text at bs es next   <-> the words from the place `at` up to `next` are numbers of the widths bs, and tell the entries es
--   FilledBy r text at bs es   <-> what the answer r of a reader says of the entries es that it filled: the words up to its place tell
--                                  them; or the words are too few, or one is no such number, whatever is to follow
--   TablesRead text at w right <-> the words from `at` on are those of four tables of these sizes exactly if `right`, and then tell them
--   SizesRead text p q next    <-> the rules of the counts hold, p and q are the counts, and `next` stands behind them
--   Ready text next w          <-> the same, and the four tables of w have these counts for sizes
--   SizesBy r text             <-> what the answer r of the reader of the counts says
-- Assumes nothing.
use Rattle.std.specs.Prelude.{ℕ, ◌≤◌, ◌≡◌, Bool, true, false, List, ◌++◌, map, length, drop, T, Option, Some, None, Result, Ok, Err}
use Rattle.trees.specs.Rulings.{refused_by, verdict, Passes, Every}
use Rattle.trees.specs.Tables.{Pair}
use Rattle.trees.specs.declared.Refusal.{Refusal}
use Rattle.numbers.specs.Numbers.{value}
use Rattle.numbers.specs.Words.{words}
use Rattle.reading.specs.Reading.{species_count, gene_count, widths, fits, tables_of, count_rules}
use Rattle.reading.specs.declared.Sizes.{Sizes}

pub record TreeRoom (text : List ℕ) (at : ℕ) (par tax : List ℕ) : Type 0 where
  pub inside : at ≤ length text
  pub even : length tax ≡ length par

pub record TablesRoom (text : List ℕ) (at : ℕ) (w : Pair) : Type 0 where
  pub inside : at ≤ length text
  pub st_even : length w.st ≡ length w.sp
  pub gt_even : length w.gt ≡ length w.gp

pub record Taken (text : List ℕ) (at : ℕ) (bs es : List ℕ) (next : ℕ) : Type 0 where
  pub own : List (List ℕ)
  pub split : words (drop at text) ≡ own ++ words (drop next text)
  pub fit : T (fits bs own)
  pub told : es ≡ map value own
  pub inside : next ≤ length text

abbrev pub FilledBy : Option ℕ → List ℕ → ℕ → List ℕ → List ℕ → Type 0
FilledBy (Some next) text at bs es = Taken text at bs es next
FilledBy None text at bs es = (more : List ℕ) → fits (bs ++ more) (words (drop at text)) ≡ false

pub record TablesRead (text : List ℕ) (at : ℕ) (w : Pair) (right : Bool) : Type 0 where
  pub fit : right ≡ fits (widths (length w.sp) (length w.gp)) (words (drop at text))
  pub told : right ≡ true → w ≡ tables_of (length w.sp) (length w.gp) (map value (words (drop at text)))

pub record SizesRead (text : List ℕ) (p q next : ℕ) : Type 0 where
  pub passed : Every Passes (count_rules text)
  pub species : p ≡ species_count text
  pub genes : q ≡ gene_count text
  pub p_few : p ≤ 2047
  pub q_few : q ≤ 2047
  pub rest : words (drop next text) ≡ drop 2 (words text)
  pub inside : next ≤ length text

pub record Ready (text : List ℕ) (next : ℕ) (w : Pair) : Type 0 where
  pub read : SizesRead text (length w.sp) (length w.gp) next
  pub st_even : length w.st ≡ length w.sp
  pub gt_even : length w.gt ≡ length w.gp

abbrev pub SizesBy : Result Sizes Refusal → List ℕ → Type 0
SizesBy (Ok s) text = SizesRead text s.species s.genes s.next
SizesBy (Err r) text = verdict (count_rules text) ≡ refused_by r
