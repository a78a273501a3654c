-- `is_framed` meets its contract: each return is one of the tests. Assumes nothing.
use native.Mathlib.Omega.{arith}
use mathlib.Core.Path.{sym, ◌∙◌}
use Rattle.opening.proofs.Opening.{framed_species, framed_genes, framed_blocks, framed_rest}
use Rattle.opening.proofs.is_framed.Goals as goal

pub returns-then-not-in_size : goal.returns-then-not-in_size
returns-then-not-in_size c = framed_species _ _ _ _ c.nth_word-p.ensures c.nth_word-q.ensures (sym c.in_size.ensures ∙ c.if-not-in_size.true)

pub returns-then-not-in_size-2 : goal.returns-then-not-in_size-2
returns-then-not-in_size-2 c = framed_genes _ _ _ _ c.nth_word-p.ensures c.nth_word-q.ensures (sym c.in_size-2.ensures ∙ c.if-not-in_size-2.true)

pub returns-then-image-c : goal.returns-then-image-c
returns-then-image-c c =
    framed_blocks _ _ _ _ c.nth_word-p.ensures c.nth_word-q.ensures (sym c.in_size.ensures ∙ c.if-not-in_size.false) (sym c.in_size-2.ensures ∙ c.if-not-in_size-2.false) (λ e. omega arith)

pub returns : goal.returns
returns c =
    c.blank_from.ensures
    ∙ framed_rest _ _ _ _ c.nth_word-p.ensures c.nth_word-q.ensures (sym c.in_size.ensures ∙ c.if-not-in_size.false) (sym c.in_size-2.ensures ∙ c.if-not-in_size-2.false) c.if-image-c.false
