-- `meets::Parents::join_any`: the deeper one goes up by what it is deeper, which changes nothing in where they meet. Assumes nothing.
use native.Mathlib.Omega.{arith}
use mathlib.Core.Path.{sym}
use Rattle.trees.proofs.Lines.{top_node}
use Rattle.trees.proofs.Meets.{meet_swap}
use Rattle.meets.proofs.Joins.{gone_level, gone_meet}
use Rattle.meets.proofs.Parents.join_any.Goals as goal

pub together-requires : goal.together-requires
together-requires c = let s = c in let G = c.go_up-x.ensures in (top_node G.over, s.requires.1, gone_level s.shared-apart.ensures.tree.1 _ _ (omega (arith, c.shared-apart.ensures.apart)) G)

pub returns-then-apart : goal.returns-then-apart
returns-then-apart c = gone_meet c.shared-apart.ensures.tree.1 _ (omega (arith, c.shared-apart.ensures.apart)) c.go_up-x.ensures c.together.ensures

pub together-requires-2 : goal.together-requires-2
together-requires-2 c = let s = c in let G = c.go_up-y.ensures in (s.requires.0, top_node G.over, sym (gone_level s.shared-apart.ensures.tree.1 _ _ (omega (arith, c.shared-apart.ensures.apart)) G))

pub returns : goal.returns
returns c = meet_swap (gone_meet c.shared-apart.ensures.tree.1 _ (omega (arith, c.shared-apart.ensures.apart)) c.go_up-y.ensures (meet_swap c.together-2.ensures))
