-- What the steps of a load leave in the four lent tables. `lent` and `genes_at` stand in promises; the others are private to the steps of
-- `load_image`.
--   lent gp gt places labels == the four tables
--   genes_at w i q    == the tables of q gene nodes and of their history that stand in the words w from word i on
--   cleared_all t     == zero in every entry of the four tables
--   story_after r f q == what four tables of q entries hold after the ruling r of the stored family f: its tables, or all zero
--   story_outcome ..  == what loading the family f on a rack answers and leaves, once the image has opened
-- Assumes nothing.
use Rattle.std.specs.Prelude.{ℕ, ◌+◌, ◌*◌, List, length, replicate}
use Rattle.blocks.specs.Halves.{longs_of}
use Rattle.blocks.specs.Blocks.{run}
use Rattle.trees.specs.Rulings.{Ruling, accepted, refused, ruling}
use Rattle.families.specs.Families.{Family}
use Rattle.families.specs.Loading.{Lent, stored_pair, stored_history, story_rules, contents_of, Loading}

abbrev pub lent : List ℕ → List ℕ → List ℕ → List ℕ → Lent
lent gp gt places labels = record { gp = gp; gt = gt; places = places; labels = labels }

abbrev pub genes_at : List ℕ → ℕ → ℕ → Lent
genes_at w i q = lent (run i q w) (longs_of (run (i + q) (2 * q) w)) (run (i + 3 * q) q w) (run (i + 4 * q) q w)

abbrev pub cleared_all : Lent → Lent
cleared_all t = lent (replicate (length t.gp) 0) (replicate (length t.gt) 0) (replicate (length t.places) 0) (replicate (length t.labels) 0)

abbrev pub story_after : {A : Type 0} → Ruling A → Family → Lent
story_after (accepted a) f = lent f.gp f.gt f.places f.labels
story_after (refused n t v) f = cleared_all (lent f.gp f.gt f.places f.labels)

unfoldable pub story_outcome : List ℕ → List ℕ → Family → Loading
story_outcome sp st f =
    let answer = ruling (story_rules (stored_pair sp st f) (stored_history f)) (contents_of (stored_pair sp st f) (stored_history f)) in
    record { answer = answer; tables = story_after answer f }
