-- The image of a list of words, and the rules that refuse a list of bytes.
--   fewest c            == the fewest blocks that hold c words                        (01, "in the fewest blocks that hold them")
--   filled w            == the words w, and zeros up to the last block's end          (01, "The rest of the last block is zero")
--   image_of w          == the image of the words w
--   blank w             == are the words w all zero?
--   sized limit s       == 13: "image length 0, no multiple of 512, or over 65 blocks"
--   block_rules limit s == 13, 14, 15 in order; the limit is 65 for form 1
-- What the words mean is no matter here. Assumes nothing.
use Rattle.std.specs.Prelude.{ℕ, ◌+◌, ◌-◌, ◌*◌, ◌/◌, ◌%◌, Bool, ◌&&◌, List, [], ◌∷◌, ◌++◌, length, replicate, ◌==◌, nat_eq, nat_le}
use Rattle.trees.specs.Lists.{all}
use Rattle.trees.specs.Rulings.{Rule, whole, each}
use Rattle.blocks.specs.Blocks.{blocks, part, checked, numbered, count}

unfoldable pub fewest : ℕ → ℕ
fewest c = (c + 252) / 253

unfoldable pub filled : List ℕ → List ℕ
filled w = w ++ replicate (253 * fewest (length w) - length w) 0

unfoldable pub image_of : List ℕ → List ℕ
image_of w = blocks (fewest (length w)) (filled w)

unfoldable pub blank : List ℕ → Bool
blank w = all (λ x. nat_eq x 0) w

unfoldable pub sized : ℕ → List ℕ → Bool
sized limit s = nat_le 1 (length s) && (length s % 512 == 0 && nat_le (count s) limit)

unfoldable pub block_rules : ℕ → List ℕ → List Rule
block_rules limit s =
    whole 13 0 0 (sized limit s)
    ∷ each 14 0 (count s) (λ k. checked (part s k))
    ∷ each 15 0 (count s) (λ k. numbered k (part s k))
    ∷ []
