-- Private to the functions behind the calls: what each asks of its caller, once the rules before it are passed; nothing of it is part of a promise.
--   FewBlocks s     <-> s has 1 to 65 blocks
--   Fitted sp st s  <-> s has 1 to 65 blocks, and the rack's two tables are of one length
--   Opens sp st s q <-> the image s opens on the rack and has q gene nodes
-- Assumes nothing.
use Rattle.std.specs.Prelude.{ℕ, ◌≤◌, ◌≡◌, List, length}
use Rattle.trees.specs.Rulings.{Passes, Every}
use Rattle.blocks.specs.Blocks.{count, content}
use Rattle.families.specs.Families.{gene_count}
use Rattle.families.specs.Loading.{open_rules}

pub record FewBlocks (s : List ℕ) : Type 0 where
  pub some : 1 ≤ count s
  pub few : count s ≤ 65

pub record Fitted (sp st s : List ℕ) : Type 0 where
  pub blocks : FewBlocks s
  pub even : length st ≡ length sp

pub record Opens (sp st s : List ℕ) (q : ℕ) : Type 0 where
  pub opens : Every Passes (open_rules sp st s)
  pub genes : q ≡ gene_count (content s)
