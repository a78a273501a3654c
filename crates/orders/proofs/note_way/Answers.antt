-- `orders::note_way`: what is left of the line tells what all of it would, and the way so far is noted. Assumes nothing.
use native.Mathlib.Omega.{arith}
use mathlib.Core.Path.{sym, ◌∙◌}
use mathlib.Core.Logic.{inl, inr}
use Rattle.trees.specs.Trees.{here}
use Rattle.roots.proofs.Ways.{reaching_yes, reaching_root, reaching_below, below_up, way_start, way_turn, way_end}
use Rattle.orders.proofs.Noting.{noting_start, noting_turn, noted_at, first_at}
use borrow.Author.Rules.{rules}
use Rattle.orders.proofs.note_way.Goals as goal

pub loop-k-init : goal.loop-k-init
loop-k-init c = let p = c.requires in (p.0, here p.0, way_start _ _ _ (search rules), noting_start _ _ _)

pub returns-then-spots-x : goal.returns-then-spots-x
returns-then-spots-x c =
    let s = c in
    let l = c in
    record {
      ends = sym (reaching_yes s.requires.1.entries (reaching_below l.loop-k.invariant.1 (s.requires.1.reach _ (search rules) c.if-spots-x.true)));
      noted = noted_at s.args.spots.now (search rules) l.loop-k.invariant.3 (inr c.if-spots-x.true);
      first = first_at s.args.spots.now l.loop-k.invariant.3 c.if-spots-x.true;
    }

pub overflow_cast-u : goal.overflow_cast-u
overflow_cast-u c = omega (arith, c.type_inv.parents c.loop-k.x)

pub returns-then-n-u : goal.returns-then-n-u
returns-then-n-u c =
    let s = c in
    let l = c in
    let N = noting_turn (search rules) (search rules) l.loop-k.invariant.3 in
    record {
      ends = sym (reaching_yes s.requires.1.entries (reaching_below l.loop-k.invariant.1 (reaching_root s.requires.1.entries _ (search rules) (search rules))));
      noted = noted_at s.args.spots.now (search rules) N (inl (search rules));
      first = inr (search rules, N.first (search rules));
    }

pub loop-k-preserved : goal.loop-k-preserved
loop-k-preserved c =
    let s = c in
    let l = c in (
      search rules,
      below_up (search rules) (search rules) l.loop-k.invariant.1,
      l.loop-k.invariant.2 ∙ way_turn _ _ _ _ (search rules) (search rules) (omega (arith, s.requires.1.entries.few)) (search rules),
      noting_turn (search rules) (search rules) l.loop-k.invariant.3,
    )

pub returns : goal.returns
returns c =
    let l = c in
    record {
      ends = sym (l.loop-k.invariant.2 ∙ way_end _ _ _ (search rules));
      noted = tt;
      first = tt;
    }
