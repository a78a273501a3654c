-- The words of a family, form 1.                                                      (01, "The stored image, form 1")
--   Family             == the tables of a family: those of the two trees, and a place and a label for each gene node
--   family ..          == the family of six tables
--   tables_of f        == "p species parents, p species taxa (two words each, low first), q gene parents, q gene taxa, q places, q labels"
--   family_words f     == "1 (the form), species count p, gene count q", and the tables
--   species_count w, gene_count w == p and q, as the words w give them
--   word_count p q     == how many words a family has                                   (01, "So there are 3 + 3p + 5q words")
--   family_at i p q w  == the tables of p species nodes and q gene nodes that stand in the words w from word i on
--   family_of w        == the family that the words w hold
--   Even f             <-> its species tables are of one length, and so are its gene tables
-- Blocks, checks and bytes are no matter here. Assumes nothing.
use Rattle.std.specs.Prelude.{ℕ, ◌+◌, ◌*◌, ◌≡◌, List, ◌∷◌, ◌++◌, length, get_or}
use Rattle.blocks.specs.Halves.{low_high_lem, longs_of}
use Rattle.blocks.specs.Blocks.{run}

pub record Family : Type 0 where
  pub sp : List ℕ
  pub st : List ℕ
  pub gp : List ℕ
  pub gt : List ℕ
  pub places : List ℕ
  pub labels : List ℕ

abbrev pub family : List ℕ → List ℕ → List ℕ → List ℕ → List ℕ → List ℕ → Family
family sp st gp gt places labels = record { sp = sp; st = st; gp = gp; gt = gt; places = places; labels = labels }

unfoldable pub tables_of : Family → List ℕ
tables_of f = f.sp ++ low_high_lem f.st ++ f.gp ++ low_high_lem f.gt ++ f.places ++ f.labels

unfoldable pub family_words : Family → List ℕ
family_words f = 1 ∷ length f.sp ∷ length f.gp ∷ tables_of f

abbrev pub species_count : List ℕ → ℕ
species_count w = get_or w 1 0

abbrev pub gene_count : List ℕ → ℕ
gene_count w = get_or w 2 0

abbrev pub word_count : ℕ → ℕ → ℕ
word_count p q = 3 + 3 * p + 5 * q

abbrev pub family_at : ℕ → ℕ → ℕ → List ℕ → Family
family_at i p q w =
    record {
      sp = run i p w;
      st = longs_of (run (i + p) (2 * p) w);
      gp = run (i + 3 * p) q w;
      gt = longs_of (run (i + 3 * p + q) (2 * q) w);
      places = run (i + 3 * p + 3 * q) q w;
      labels = run (i + 3 * p + 4 * q) q w;
    }

abbrev pub family_of : List ℕ → Family
family_of w = family_at 3 (species_count w) (gene_count w) w

pub record Even (f : Family) : Type 0 where
  pub species : length f.st ≡ length f.sp
  pub genes : length f.gt ≡ length f.gp
  pub places : length f.places ≡ length f.gp
  pub labels : length f.labels ≡ length f.gp
