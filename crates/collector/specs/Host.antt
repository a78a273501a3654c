-- What the rack's collector hands in: two tables as bytes.                              (01, "The host and the program")
--   fits parents taxa == do the lengths make two equal tables?                           (01, "lengths that don't make two equal tables give 1")
--   rack_parents b, rack_taxa b == the tables: "Tables come as bytes, low byte first"; 2 bytes a parent, 4 a taxon
--   Halved parents taxa n <-> the lengths make two tables of n entries
--   host_ruling ..    == what loading the image on the rack answers; 1 where the lengths do not fit
--   duplications_in, losses_in == the number that each of these calls answers; number_in, tree_in and place_in are the rack's
-- Assumes nothing.
use Rattle.std.specs.Prelude.{ℕ, ◌*◌, ◌/◌, ◌%◌, ◌≡◌, Bool, ◌&&◌, List, length, replicate, eqb}
use Rattle.trees.specs.Lists.{pick}
use Rattle.trees.specs.Rulings.{Ruling, accepted, refused}
use Rattle.blocks.specs.Halves.{words_of, longs_of}
use Rattle.families.specs.Loading.{Lent, Contents, load}

unfoldable pub fits : List ℕ → List ℕ → Bool
fits parents taxa = (eqb (length parents % 2) 0 && eqb (length taxa % 4) 0) && eqb (length parents / 2) (length taxa / 4)

abbrev pub rack_parents : List ℕ → List ℕ
rack_parents b = words_of b

abbrev pub rack_taxa : List ℕ → List ℕ
rack_taxa b = longs_of (words_of b)

pub record Halved (parents taxa : List ℕ) (n : ℕ) : Type 0 where
  pub parents_size : length parents ≡ 2 * n
  pub taxa_size : length taxa ≡ 4 * n

-- the tables that a call works in; the host lends none
abbrev pub scratch : Lent
scratch = record { gp = replicate 2047 0; gt = replicate 2047 0; places = replicate 2047 0; labels = replicate 2047 0 }

-- the image against the rack's tables
unfoldable pub host_ruling : List ℕ → List ℕ → List ℕ → Ruling Contents
host_ruling image parents taxa = pick (fits parents taxa) (load (rack_parents parents) (rack_taxa taxa) image scratch).answer (refused 1 1 0)

-- "the duplications and losses of the history stored in it (0 if refused)"
abbrev pub duplications_in : Ruling Contents → ℕ
duplications_in (accepted c) = c.duplications
duplications_in (refused n t v) = 0

abbrev pub losses_in : Ruling Contents → ℕ
losses_in (accepted c) = c.losses
losses_in (refused n t v) = 0
