-- Loading an image on a rack.
--   limit              == 65: "65 blocks at most"
--   in_size_lem k      == is k a number of nodes?                                           (01, "p or q is 0 or over 2,047")
--   framed n w         == 17 for n blocks that hold the words w: "p or q is 0 or over 2,047, block count not the fewest, or filling not zero"
--   form_rules n w     == 16 and 17
--   rack_rules sp st w == 18: "species tables aren't the rack's", "lowest differing node; 65,535 if counts differ"
--   Lent, lends q t    == the four lent tables; 7: has each at least q entries?
--   content_rules ..   == 16 to 18, of an image whose blocks are right
--   open_rules ..      == the rules that need no lent table: "rack's species 1-5, then 13-18"
--   entry_rules ..     == those and "7 for the four lent tables"
--   story_rules w h    == "gene 2, 3, 4, 6, then 8-11", with 38 after 2, of two trees and a history
--   Contents, contents_of w h == what an accepted load answers: p, q, and the duplications and losses of the stored history
--   table_after e r q new old == what a lent table holds after the rulings e of the entry and r of the story:
--                        unchanged; "the first q entries .. zero and the rest unchanged"; the first q entries new
--   zeroed_all q t     == the first q entries of the four tables zero, the rest as it was
--   Loading, load ..   == the outcome of a call
-- Assumes nothing.
use Rattle.std.specs.Prelude.{ℕ, Bool, ◌&&◌, List, [], ◌∷◌, ◌++◌, length, get_or, drop, eqb, leb}
use Rattle.trees.specs.Tables.{Pair, pair}
use Rattle.trees.specs.Lent.{replaced, zeroed}
use Rattle.trees.specs.Rulings.{Ruling, accepted, refused, Rule, whole, each, ruling, Fine, verdict}
use Rattle.trees.specs.Rules.{species_rules, family_rules}
use Rattle.histories.specs.Histories.{History, told, every_node, duplications, losses_in}
use Rattle.histories.specs.Rules.{descent_rules}
use Rattle.blocks.specs.Blocks.{count, content}
use Rattle.blocks.specs.Image.{fewest, blank, block_rules}
use Rattle.words.specs.Words.{alike}
use Rattle.families.specs.Families.{Family, species_count, gene_count, word_count, family_of}

abbrev pub limit : ℕ
limit = 65

unfoldable pub in_size_lem : ℕ → Bool
in_size_lem k = leb 1 k && leb k 2047

unfoldable pub framed : ℕ → List ℕ → Bool
framed n w =
    (in_size_lem (species_count w) && in_size_lem (gene_count w))
    && (eqb n (fewest (word_count (species_count w) (gene_count w))) && blank (drop (word_count (species_count w) (gene_count w)) w))

unfoldable pub form_rules : ℕ → List ℕ → List Rule
form_rules n w = whole 16 0 0 (eqb (get_or w 0 0) 1) ∷ whole 17 0 0 (framed n w) ∷ []

unfoldable pub rack_rules : List ℕ → List ℕ → List ℕ → List Rule
rack_rules sp st w =
    whole 18 1 65535 (eqb (species_count w) (length sp)) ∷ each 18 1 (length sp) (alike (family_of w).sp (family_of w).st sp st) ∷ []

pub record Lent : Type 0 where
  pub gp : List ℕ
  pub gt : List ℕ
  pub places : List ℕ
  pub labels : List ℕ

unfoldable pub lends : ℕ → Lent → Bool
lends q t = (leb q (length t.gp) && leb q (length t.gt)) && (leb q (length t.places) && leb q (length t.labels))

unfoldable pub content_rules : List ℕ → List ℕ → List ℕ → List Rule
content_rules sp st s = form_rules (count s) (content s) ++ rack_rules sp st (content s)

unfoldable pub open_rules : List ℕ → List ℕ → List ℕ → List Rule
open_rules sp st s = species_rules sp st ++ block_rules limit s ++ content_rules sp st s

unfoldable pub entry_rules : List ℕ → List ℕ → List ℕ → Lent → List Rule
entry_rules sp st s t = open_rules sp st s ++ whole 7 0 0 (lends (gene_count (content s)) t) ∷ []

-- the trees and the history of an image whose species tables are the rack's
abbrev pub stored_pair : List ℕ → List ℕ → Family → Pair
stored_pair sp st f = pair sp st f.gp f.gt

abbrev pub stored_history : Family → History
stored_history f = told f.places f.labels

unfoldable pub story_rules : Pair → History → List Rule
story_rules w h = family_rules w ++ descent_rules w every_node h

pub record Contents : Type 0 where
  pub species : ℕ
  pub genes : ℕ
  pub duplications : ℕ
  pub losses : ℕ

unfoldable pub contents_of : Pair → History → Contents
contents_of w h = record { species = length w.sp; genes = length w.gp; duplications = duplications w.gp h; losses = losses_in w h }

abbrev pub table_after : Ruling Fine → Ruling Fine → ℕ → List ℕ → List ℕ → List ℕ
table_after (refused n t v) r q new old = old
table_after (accepted x) (refused n t v) q new old = zeroed q old
table_after (accepted x) (accepted y) q new old = replaced new old

abbrev pub zeroed_all : ℕ → Lent → Lent
zeroed_all q t = record { gp = zeroed q t.gp; gt = zeroed q t.gt; places = zeroed q t.places; labels = zeroed q t.labels }

pub record Loading : Type 0 where
  pub answer : Ruling Contents
  pub tables : Lent

-- the rack's species tables, the image, the lent tables
unfoldable pub load : List ℕ → List ℕ → List ℕ → Lent → Loading
load sp st s t =
    let f = family_of (content s) in
    let q = gene_count (content s) in
    let w = stored_pair sp st f in
    let h = stored_history f in
    let e = verdict (entry_rules sp st s t) in
    let r = verdict (story_rules w h) in
    record {
      answer = ruling (entry_rules sp st s t ++ story_rules w h) (contents_of w h);
      tables =
          record {
            gp = table_after e r q f.gp t.gp;
            gt = table_after e r q f.gt t.gt;
            places = table_after e r q f.places t.places;
            labels = table_after e r q f.labels t.labels;
          };
    }
