-- `judge_content` meets its contract: each return is one of the rules' answers. Where the form is another than 1, the lemma that the function
-- names does. Assumes nothing.
use native.Mathlib.Omega.{arith}
use mathlib.Core.Path.{◌≡◌, sym, ap, ◌∙◌}
use mathlib.Core.Bool.{true}
use Rattle.trees.specs.Rulings.{accepted, refused_by}
use Rattle.trees.specs.Spots.{species_spot}
use Rattle.blocks.specs.Blocks.{count, content}
use Rattle.families.specs.Loading.{framed}
use Rattle.opening.proofs.Opening.{refused_17, refused_count, refused_node, content_fine, comparable}
use Rattle.opening.proofs.judge_content.Goals as goal

pub returns-then-not-is_framed : goal.returns-then-not-is_framed
returns-then-not-is_framed c =
    let form : c.nth_word.result ≡ 1 = omega arith in
    ap refused_by c.refuse-then-not-is_framed.ensures ∙ sym (refused_17 _ _ _ _ _ c.nth_word.ensures form (sym c.is_framed.ensures ∙ c.if-not-is_framed.true))

pub returns-then-from-species : goal.returns-then-from-species
returns-then-from-species c =
    let form : c.nth_word.result ≡ 1 = omega arith in
    let passed : framed (count c.args.image.now) (content c.args.image.now) ≡ true = sym c.is_framed.ensures ∙ c.if-not-is_framed.false in
    ap refused_by c.refuse-then-from-species.ensures ∙ sym (refused_count _ _ _ _ _ c.nth_word.ensures form passed _ (c.from.ensures ∙ c.nth_word-2.ensures) c.if-from-species.true)

pub first_difference-requires : goal.first_difference-requires
first_difference-requires c =
    let passed : framed (count c.args.image.now) (content c.args.image.now) ≡ true = sym c.is_framed.ensures ∙ c.if-not-is_framed.false in
    comparable _ _ _ _ passed (c.from.ensures ∙ c.nth_word-2.ensures) c.if-from-species.false c.requires.even

pub returns-in-Some : goal.returns-in-Some
returns-in-Some c =
    let form : c.nth_word.result ≡ 1 = omega arith in
    let passed : framed (count c.args.image.now) (content c.args.image.now) ≡ true = sym c.is_framed.ensures ∙ c.if-not-is_framed.false in
    ap refused_by c.refuse-in-Some.ensures
    ∙ sym (refused_node _ _ _ _ _ c.nth_word.ensures form passed _ (c.from.ensures ∙ c.nth_word-2.ensures) c.if-from-species.false _ (sym (ap species_spot c.in-Some.is) ∙ c.first_difference.ensures))

pub returns : goal.returns
returns c =
    let form : c.nth_word.result ≡ 1 = omega arith in
    let passed : framed (count c.args.image.now) (content c.args.image.now) ≡ true = sym c.is_framed.ensures ∙ c.if-not-is_framed.false in
    ap accepted (c.from-2.ensures ∙ c.nth_word-3.ensures)
    ∙ sym (content_fine _ _ _ _ _ c.nth_word.ensures form passed _ (c.from.ensures ∙ c.nth_word-2.ensures) c.if-from-species.false (sym (ap species_spot c.in_default.is) ∙ c.first_difference.ensures))
