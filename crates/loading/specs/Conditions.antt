-- What functions ask of their callers, once the image has opened. GenesRoom is asked by `read_genes`; the others are private to the functions
-- behind the calls, and no part of a promise.
--   EvenLent q t       <-> the four tables have q entries each
--   GenesRoom s i t    <-> the four tables are of one length, and s has as many entries of each from word i on
--   Tellable sp st t   <-> the rack's tables are sound, and the four tables of one right size
--   Loadable sp st s t <-> the image s opens on the rack, and the four tables have as many entries as it has gene nodes
-- Assumes nothing.
use Rattle.std.specs.Prelude.{ℕ, ◌*◌, ◌≡◌, List, length, T}
use Rattle.trees.specs.Sound.{SoundSpecies}
use Rattle.trees.specs.Rulings.{Passes, Every}
use Rattle.trees.specs.Rules.{sized}
use Rattle.blocks.specs.Blocks.{content}
use Rattle.words.specs.Words.{Within}
use Rattle.families.specs.Families.{gene_count}
use Rattle.families.specs.Loading.{Lent, open_rules}

pub record EvenLent (q : ℕ) (t : Lent) : Type 0 where
  pub gp : length t.gp ≡ q
  pub gt : length t.gt ≡ q
  pub places : length t.places ≡ q
  pub labels : length t.labels ≡ q

pub record GenesRoom (s : List ℕ) (i : ℕ) (t : Lent) : Type 0 where
  pub even : EvenLent (length t.gp) t
  pub within : Within s i (5 * length t.gp)

pub record Tellable (sp st : List ℕ) (t : Lent) : Type 0 where
  pub rack : SoundSpecies sp st
  pub sized : T (sized t.gp t.gt)
  pub even : EvenLent (length t.gp) t

pub record Loadable (sp st s : List ℕ) (t : Lent) : Type 0 where
  pub opens : Every Passes (open_rules sp st s)
  pub even : EvenLent (gene_count (content s)) t
