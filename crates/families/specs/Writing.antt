-- Writing an image.
--   stored_family w places labels == what is stored: the trees, and the first q places and labels      (01, "of which the first q count")
--   family_image f    == the image of a family
--   write_rules ..    == "writing 7, 8-11, 12", after the trees'
--   Writing           == what a call answers, the number of bytes or a refusal, and what it leaves in the lent buffer
--   write ..          == the outcome of a call
-- Assumes nothing.
use Rattle.std.specs.Prelude.{ℕ, List, [], ◌∷◌, ◌++◌, length, take, leb}
use Rattle.trees.specs.Tables.{Pair}
use Rattle.trees.specs.Lent.{on_accepted}
use Rattle.trees.specs.Rulings.{Ruling, Rule, whole, ruling}
use Rattle.histories.specs.Rules.{offer_rules}
use Rattle.blocks.specs.Image.{image_of}
use Rattle.families.specs.Families.{Family, family_words}

abbrev pub stored_family : Pair → List ℕ → List ℕ → Family
stored_family w places labels =
    record {
      sp = w.sp;
      st = w.st;
      gp = w.gp;
      gt = w.gt;
      places = take (length w.gp) places;
      labels = take (length w.gp) labels;
    }

abbrev pub family_image : Family → List ℕ
family_image f = image_of (family_words f)

unfoldable pub write_rules : Pair → List ℕ → List ℕ → List ℕ → List Rule
write_rules w places labels image =
    offer_rules w places labels ++ whole 12 0 0 (leb (length (family_image (stored_family w places labels))) (length image)) ∷ []

pub record Writing : Type 0 where
  pub answer : Ruling ℕ
  pub image : List ℕ

unfoldable pub write : Pair → List ℕ → List ℕ → List ℕ → Writing
write w places labels image =
    let bytes = family_image (stored_family w places labels) in
    let answer = ruling (write_rules w places labels image) (length bytes) in
    record { answer = answer; image = on_accepted answer bytes image }
