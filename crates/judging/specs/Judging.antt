-- The rules by which an image is judged where no table is lent.
--   table_rules sp st t  == the gene rules and the rules of descent, of four tables on a rack
--   stored_rules sp st s == the same, of the tables in an image
--   image_rules sp st s  == all of a load but 7: "rack's species 1-5, then 13-18 .. then gene 2, 3, 4, 6, then 8-11", with 38 after 2
--   plain r              == a ruling without its value: sound, or number, tree and place
-- Assumes nothing.
use Rattle.std.specs.Prelude.{ℕ, List, ◌++◌}
use Rattle.trees.specs.Rulings.{Rule, Ruling, accepted, refused, Fine, fine}
use Rattle.trees.specs.Tables.{pair}
use Rattle.histories.specs.Histories.{told}
use Rattle.blocks.specs.Blocks.{content}
use Rattle.families.specs.Families.{family_of}
use Rattle.families.specs.Loading.{Lent, story_rules, stored_pair, stored_history, open_rules}

abbrev pub table_rules : List ℕ → List ℕ → Lent → List Rule
table_rules sp st t = story_rules (pair sp st t.gp t.gt) (told t.places t.labels)

abbrev pub stored_rules : List ℕ → List ℕ → List ℕ → List Rule
stored_rules sp st s = story_rules (stored_pair sp st (family_of (content s))) (stored_history (family_of (content s)))

abbrev pub image_rules : List ℕ → List ℕ → List ℕ → List Rule
image_rules sp st s = open_rules sp st s ++ stored_rules sp st s

abbrev pub plain : {A : Type 0} → Ruling A → Ruling Fine
plain (accepted a) = accepted fine
plain (refused n t v) = refused n t v
