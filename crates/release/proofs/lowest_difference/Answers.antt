-- `lowest_difference` meets its contract. The loop's invariant: `a` and `b` are where the entries v of the two tables stand, and all entries before are alike.
-- The measure is what is left of the tables. Assumes nothing.
use Prim.Native.Nat.{◌+◌, ◌<◌}
use native.Mathlib.Omega.{arith}
use mathlib.Core.Path.{◌≡◌, ◌∙◌}
use lib.ListN.{length}
use Rattle.blocks.specs.Blocks.{content}
use Rattle.words.specs.Words.{after, agree}
use Rattle.trees.proofs.Bools.{true_T}
use Rattle.words.proofs.Words.{after_range}
use Rattle.words.proofs.Tables.{word_behind, long_behind, word_in, long_in}
use Rattle.release.proofs.Comparing.{agree_at}
use Rattle.blocks.proofs.Searches.{passed_more, passed_spot, passed_nowhere}
use Rattle.release.proofs.lowest_difference.Goals as goal

pub same_at-requires : goal.same_at-requires
same_at-requires c =
    (word_in c.args.image.now _ c.loop-v.a (omega arith) c.loop-v.invariant.0, long_in c.args.image.now _ c.loop-v.v c.loop-v.b (omega arith) c.loop-v.invariant.1)

pub next-a-requires : goal.next-a-requires
next-a-requires c =
    let in_a : c.loop-v.a + 1 < length c.args.image.now = word_in c.args.image.now _ c.loop-v.a (omega arith) c.loop-v.invariant.0 in
    omega arith

pub next-requires : goal.next-requires
next-requires c =
    let in_b : after c.loop-v.b + 1 < length c.args.image.now = long_in c.args.image.now _ c.loop-v.v c.loop-v.b (omega arith) c.loop-v.invariant.1 in
    omega (arith, after_range c.loop-v.b)

pub next-b-requires : goal.next-b-requires
next-b-requires c =
    let in_b : after c.loop-v.b + 1 < length c.args.image.now = long_in c.args.image.now _ c.loop-v.v c.loop-v.b (omega arith) c.loop-v.invariant.1 in
    omega arith

pub loop-v-preserved : goal.loop-v-preserved
loop-v-preserved c =
    let says : agree (content c.args.image.now) c.args.i c.args.species.now.parents.now c.args.species.now.taxa.now c.loop-v.v ≡ c.same_at.result = agree_at _ c.args.i c.args.species.now.parents.now c.args.species.now.taxa.now c.loop-v.v c.loop-v.a c.loop-v.b _ c.requires c.loop-v-test.true c.loop-v.invariant.0 c.loop-v.invariant.1 c.same_at.ensures in (
      word_behind c.args.i c.loop-v.v _ _ c.loop-v.invariant.0 c.next-a.ensures,
      long_behind (c.args.i + length c.args.species.now.parents.now) c.loop-v.v _ _ _ c.loop-v.invariant.1 c.next.ensures c.next-b.ensures,
      passed_more _ _ c.loop-v.v c.loop-v.invariant.2 c.loop-v-test.true (true_T (says ∙ c.if-not-same_at.false)),
    )

pub returns-then-not-same_at : goal.returns-then-not-same_at
returns-then-not-same_at c =
    let says : agree (content c.args.image.now) c.args.i c.args.species.now.parents.now c.args.species.now.taxa.now c.loop-v.v ≡ c.same_at.result = agree_at _ c.args.i c.args.species.now.parents.now c.args.species.now.taxa.now c.loop-v.v c.loop-v.a c.loop-v.b _ c.requires c.loop-v-test.true c.loop-v.invariant.0 c.loop-v.invariant.1 c.same_at.ensures in
    passed_spot _ _ c.loop-v.v c.loop-v.invariant.2 c.loop-v-test.true (says ∙ c.if-not-same_at.true)

pub returns : goal.returns
returns c = passed_nowhere _ _ c.loop-v.v c.loop-v.invariant.2 c.loop-v-test.false
