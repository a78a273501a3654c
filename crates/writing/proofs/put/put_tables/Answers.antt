-- `put_tables` meets its contract: the trees and the history, one behind the other. Assumes nothing.
use Rattle.writing.proofs.Putting.{tables_put}
use Rattle.writing.proofs.put.put_tables.Goals as goal

pub returns : goal.returns
returns c =
    tables_put _ _ _ _ _ _ c.requires.even c.put_tree.ensures c.put_tree-2.ensures c.put_story.ensures
