-- The words of a text.
--   blank b    == is the byte b a separator?                          (01, "runs of spaces and line feeds separate, and may stand at either end")
--   opens text == does the text begin with a byte of a word?
--   words text == the words of the text, in order: its longest runs of bytes that are no blanks
-- Tab, carriage return and every other byte but space and line feed belong to words. Assumes nothing.
use Rattle.std.specs.Prelude.{ℕ, Bool, false, ◌||◌, not, List, [], ◌∷◌, eqb}
use Rattle.trees.specs.Lists.{pick}

-- space is 32, line feed 10
unfoldable pub blank : ℕ → Bool
blank b = eqb b 32 || eqb b 10

unfoldable pub opens : List ℕ → Bool
opens [] = false
opens (b ∷ text) = not (blank b)

-- b before the first word
unfoldable pub grown : ℕ → List (List ℕ) → List (List ℕ)
grown b [] = (b ∷ []) ∷ []
grown b (w ∷ ws) = (b ∷ w) ∷ ws

-- a byte that is no blank is the first of the word that goes on behind it, or a word by itself
unfoldable pub words : List ℕ → List (List ℕ)
words [] = []
words (b ∷ text) = pick (blank b) (words text) (pick (opens text) (grown b (words text)) ((b ∷ []) ∷ words text))
